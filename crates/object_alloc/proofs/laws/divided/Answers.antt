use Rattle.division_grace.proofs.TakeLemmas.{grace_holds}
use Rattle.object_division.proofs.DividedLemmas.{divided_along}
use Rattle.object_alloc.proofs.laws.divided.Goals as goal

pub returns-clause-holds : goal.returns-clause-holds
returns-clause-holds c = divided_along

pub returns-clause-grace : goal.returns-clause-grace
returns-clause-grace c = grace_holds
