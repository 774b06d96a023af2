use Rattle.object_division.proofs.ClearerLemmas.{cleared_marked, cleared_once}
use Rattle.object_division.proofs.laws.objects_are_cleared_by_one_client.Goals as goal

pub returns-clause-clears : goal.returns-clause-clears
returns-clause-clears c = cleared_once

pub returns-clause-marked : goal.returns-clause-marked
returns-clause-marked c = cleared_marked
