use Rattle.trace_audit.specs.Told.{reply_of}
use Rattle.trace_audit.proofs.judging.return_time.Goals as goal

pub returns-in-Some-returned : goal.returns-in-Some-returned
returns-in-Some-returned c = λ trace told.
    (reply_of c.in-Some-returned.field-0-1.now, rw c.in-Some-returned.is at (c.in-Some.ensures trace told).replied)
