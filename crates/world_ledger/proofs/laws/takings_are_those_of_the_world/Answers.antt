use Rattle.world_ledger.proofs.ReturnLemmas.{with_taking_of-taking}
use Rattle.world_ledger.proofs.laws.takings_are_those_of_the_world.Goals as goal

pub returns : goal.returns
returns c = with_taking_of-taking
