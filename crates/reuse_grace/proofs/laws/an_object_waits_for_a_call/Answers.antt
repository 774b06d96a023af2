use Rattle.reuse_grace.proofs.ExampleLemmas.{IsAllowed-given_back}
use Rattle.reuse_grace.proofs.laws.an_object_waits_for_a_call.Goals as goal

pub returns-clause-allowed : goal.returns-clause-allowed
returns-clause-allowed c = IsAllowed-given_back
