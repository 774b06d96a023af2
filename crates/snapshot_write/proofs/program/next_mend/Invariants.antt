use Rattle.std.proofs.Common.{◌≡◌, drop}
use Rattle.machine.specs.SlotWrite.{mend_from}
use Rattle.snapshot_write.proofs.program.next_mend.Given as goal

abbrev pub invariant-loop-backup : goal.invariant-loop-backup
invariant-loop-backup l = mend_from l.fresh l.from (drop l.from l.list) ≡ mend_from l.fresh l.backup (drop l.backup l.list)
