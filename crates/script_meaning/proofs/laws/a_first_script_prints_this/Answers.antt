use Rattle.script_meaning.proofs.ExampleLemmas.{first_script-lines}
use Rattle.script_meaning.proofs.laws.a_first_script_prints_this.Goals as goal

pub returns : goal.returns
returns c = first_script-lines
