use Rattle.std.proofs.Common.{◌≡◌, drop}
use Rattle.machine.specs.Recovery.{first_reserve}
use Rattle.client_recovery.proofs.ends.first_reserve.Given as goal

abbrev pub invariant-loop-class : goal.invariant-loop-class
invariant-loop-class l = first_reserve l.from (drop l.from l.ends) ≡ first_reserve l.class (drop l.class l.ends)
