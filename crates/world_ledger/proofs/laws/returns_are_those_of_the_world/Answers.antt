use Rattle.world_ledger.proofs.ReturnLemmas.{with_returned-outcome}
use Rattle.world_ledger.proofs.laws.returns_are_those_of_the_world.Goals as goal

pub returns : goal.returns
returns c = with_returned-outcome
