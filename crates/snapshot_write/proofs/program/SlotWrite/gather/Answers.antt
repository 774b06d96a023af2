use Rattle.std.proofs.Common.{arith, rules}
use Rattle.snapshot_write.specs.Phases.{phase_of, write_of}
use Rattle.snapshot_write.proofs.StateLemmas.{judged-held}
use Rattle.snapshot_write.proofs.program.SlotWrite.gather.Goals as goal

pub invariant_of-self : goal.invariant_of-self
invariant_of-self c =
    let w = c.self.inside in
    judged-held (write_of w.view w.slot w.expect w.fresh w.list.items w.phase) c.push.new.self.items (phase_of c.judged_phase-self-inside.result) w.places.items c.self.invariant (omega arith) (search rules)
