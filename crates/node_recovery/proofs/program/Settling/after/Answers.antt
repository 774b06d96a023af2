use Rattle.std.proofs.Common.{ap, arith}
use Rattle.node_recovery.proofs.StateLemmas.{writing-few}
use Rattle.node_recovery.specs.Settlings.{phase_of}
use Rattle.node_recovery.proofs.program.Settling.after.Goals as goal

pub overflow_add-target : goal.overflow_add-target
overflow_add-target c =
    let few = writing-few _ _ _ c.in-WriteWord-Done.word c.in-WriteWord-Done.target c.self.invariant (ap phase_of c.in-WriteWord-Done.is-0) in
    omega (arith, few)
