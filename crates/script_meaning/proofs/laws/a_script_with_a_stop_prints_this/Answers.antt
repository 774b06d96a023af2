use Rattle.script_meaning.proofs.ExampleLemmas.{stopped_script-lines}
use Rattle.script_meaning.proofs.laws.a_script_with_a_stop_prints_this.Goals as goal

pub returns : goal.returns
returns c = stopped_script-lines
