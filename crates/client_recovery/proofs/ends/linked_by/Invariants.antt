use Rattle.std.proofs.Common.{◌≡◌, drop}
use Rattle.machine.specs.Recovery.{linked_by}
use Rattle.client_recovery.proofs.ends.linked_by.Given as goal

abbrev pub invariant-loop-class : goal.invariant-loop-class
invariant-loop-class l = linked_by l.number 0 l.ends ≡ linked_by l.number l.class (drop l.class l.ends)
