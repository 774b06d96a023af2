-- The times from this entry on are told, and the earliest from it on.
use Rattle.std.proofs.Common.{◌≡◌, ℕ, ◌+◌, ◌≤◌, List, Option, Some, map, vec_len, length}
use Rattle.std.specs.Prelude.{slice_get}
use Rattle.map_model.specs.Trace.{Moment}
use Rattle.trace_audit.specs.Judged.{IsEarliest}
use Rattle.trace_audit.specs.Listing.{entry_of}
use Rattle.trace_audit.specs.Traced.{IsTold}
use Rattle.trace_audit.proofs.judging.returns_after.Given as goal

abbrev pub invariant-loop-i : goal.invariant-loop-i
invariant-loop-i l = record {
  length : vec_len l.later ≡ length l.list;
  earliest : (trace : List Moment) → IsTold trace l.calls → IsEarliest trace (map entry_of l.list) l.i l.earliest;
  told : (trace : List Moment) → IsTold trace l.calls → (place : ℕ) (time : Option ℕ) → l.i ≤ place → slice_get l.later.items place ≡ Some time → IsEarliest trace (map entry_of l.list) (place + 1) time;
}
