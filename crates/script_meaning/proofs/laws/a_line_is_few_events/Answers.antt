use Rattle.script_meaning.proofs.CountLemmas.{meaning-within}
use Rattle.script_meaning.proofs.laws.a_line_is_few_events.Goals as goal

pub returns : goal.returns
returns c = meaning-within
