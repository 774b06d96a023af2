use Rattle.std.proofs.Common.{ap, rules}
use Rattle.snapshot_write.specs.Phases.{phase_of, write_of}
use Rattle.snapshot_write.proofs.StateLemmas.{check-held, mend-held}
use Rattle.snapshot_write.proofs.program.SlotWrite.take.Goals as goal

pub invariant_of-self : goal.invariant_of-self
invariant_of-self c =
    let w = c.self.inside in
    mend-held (write_of w.view w.slot w.expect w.fresh w.list.items w.phase) c.in-Mend.backup (phase_of c.next_mend-self-inside.result) w.places.items c.self.invariant (ap phase_of c.in-Mend.is) (search rules)

pub invariant_of-self-then-found-self : goal.invariant_of-self-then-found-self
invariant_of-self-then-found-self c =
    let w = c.self.inside in
    check-held (write_of w.view w.slot w.expect w.fresh w.list.items w.phase) (phase_of c.next_mend-self-inside-in-Check.result) w.places.items c.self.invariant (ap phase_of c.in-Check.is) (search rules)
