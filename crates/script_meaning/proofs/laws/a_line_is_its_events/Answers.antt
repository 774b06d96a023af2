use Rattle.script_meaning.proofs.RunLemmas.{meaning-run}
use Rattle.script_meaning.proofs.laws.a_line_is_its_events.Goals as goal

pub returns : goal.returns
returns c = meaning-run
