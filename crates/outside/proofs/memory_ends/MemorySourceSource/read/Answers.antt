use Rattle.std.proofs.Common.{◌≤◌, length, ap, arith}
use Rattle.outside.specs.Memory.{Supply}
use Rattle.outside.proofs.MemoryLemmas.{left-read, past_fails_not}
use Rattle.outside.proofs.memory_ends.MemorySourceSource.read.Goals as goal

pub returns-then-fails-clause-steady : goal.returns-then-fails-clause-steady
returns-then-fails-clause-steady c = λ steady.
    let was = rw (← c.self.view_is) at steady in
    absurd (past_fails_not c.self.inside.fails.items c.deref.result.now _ _ was.0 c.deref.ensures.value c.is_among-fails.ensures c.if-fails.true)

pub returns-clause-bytes : goal.returns-clause-bytes
returns-clause-bytes c =
    let room : c.min-count.result ≤ length c.args.into.now = omega arith in
    left-read _ c.deref-2.result.now c.copy_from_slice.new.self _ _ c.args.into.now c.self.inside.at c.min-count.result c.copy_from_slice.ensures.len room c.copy_from_slice.ensures.after c.deref-2.ensures.value (ap (λ (s : Supply). s.left) c.self.view_is)
