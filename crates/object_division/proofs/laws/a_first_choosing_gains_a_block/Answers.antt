use Rattle.object_division.proofs.ExampleLemmas.{IsAllowed-gains, reserve-gains}
use Rattle.object_division.proofs.laws.a_first_choosing_gains_a_block.Goals as goal

pub returns-clause-allowed : goal.returns-clause-allowed
returns-clause-allowed c = IsAllowed-gains

pub returns-clause-reserve : goal.returns-clause-reserve
returns-clause-reserve c = reserve-gains
