use Rattle.machine.proofs.RecoveryKept.{recovery_of-is, next-inside, turn-is}
use Rattle.machine.proofs.master_laws.recoveries_stand_well.Goals as goal

pub returns-clause-begins : goal.returns-clause-begins
returns-clause-begins c = recovery_of-is

pub returns-clause-goes_on : goal.returns-clause-goes_on
returns-clause-goes_on c = turn-is

pub returns-clause-inside : goal.returns-clause-inside
returns-clause-inside c = next-inside
