use Rattle.machine.proofs.ExampleLemmas.{first_put-verbs}
use Rattle.machine.proofs.laws.a_first_put_takes_18_verbs.Goals as goal

pub returns : goal.returns
returns c = first_put-verbs
