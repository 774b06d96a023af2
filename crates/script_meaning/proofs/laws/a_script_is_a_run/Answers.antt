use Rattle.script_meaning.proofs.RunLemmas.{script-run}
use Rattle.script_meaning.proofs.laws.a_script_is_a_run.Goals as goal

pub returns : goal.returns
returns c = script-run
