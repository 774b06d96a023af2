use Rattle.outside.proofs.MemoryLemmas.{past_fails_not}
use Rattle.outside.proofs.memory_ends.MemorySinkSink.write.Goals as goal

pub returns-then-fails-clause-steady : goal.returns-then-fails-clause-steady
returns-then-fails-clause-steady c = λ steady.
    let was = rw (← c.self.view_is) at steady in
    absurd (past_fails_not c.self.inside.fails.items c.deref.result.now _ _ was.0 c.deref.ensures.value c.is_among-fails.ensures c.if-fails.true)
