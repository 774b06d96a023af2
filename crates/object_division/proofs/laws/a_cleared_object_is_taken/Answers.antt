use Rattle.object_division.proofs.ExampleLemmas.{IsAllowed-takes, is_in_stock-takes, reserve-takes, uses-takes}
use Rattle.object_division.proofs.laws.a_cleared_object_is_taken.Goals as goal

pub returns-clause-taken : goal.returns-clause-taken
returns-clause-taken c = uses-takes

pub returns-clause-cleared : goal.returns-clause-cleared
returns-clause-cleared c = is_in_stock-takes

pub returns-clause-reserve : goal.returns-clause-reserve
returns-clause-reserve c = reserve-takes

pub returns-clause-allowed : goal.returns-clause-allowed
returns-clause-allowed c = IsAllowed-takes
