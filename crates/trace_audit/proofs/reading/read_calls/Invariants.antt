-- The lines so far fit, and the calls are those of their trace.
use Rattle.std.proofs.Common.{ℕ, ◌<◌, ◌≤◌, take}
use Rattle.trace_audit.specs.Fits.{FitsAt}
use Rattle.trace_audit.specs.Told.{trace_of}
use Rattle.trace_audit.specs.Traced.{IsTold}
use Rattle.trace_audit.proofs.reading.read_calls.Given as goal

abbrev pub invariant-loop-i : goal.invariant-loop-i
invariant-loop-i l = record {
  told : IsTold (trace_of (take l.i l.lines)) l.calls;
  fit : (j : ℕ) → j < l.i → FitsAt l.lines j;
  moments : l.calls.moments ≤ l.i;
}
