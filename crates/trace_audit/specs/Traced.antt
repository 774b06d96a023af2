-- A table of calls that says what a trace says, and what holds of every trace that fits.
use Rattle.std.specs.Prelude.{◌≡◌, ℕ, ◌<◌, ◌≤◌, List, Some, slice_get, length, MatchOption, MatchBool}
use Rattle.std.specs.BTreeSet as set
use Rattle.std.specs.Ordering.{nat_cmp}
use Rattle.map_model.specs.declared.calls.Call.{Call}
use Rattle.map_model.specs.declared.calls.Reply.{Reply}
use Rattle.map_model.specs.Trace.{Moment, Invoked, Returned}
use Rattle.trace_audit.specs.declared.tables.Row.{Row}
use Rattle.trace_audit.specs.declared.calls.Calls.{Calls}
use Rattle.trace_audit.specs.Fits.{IsCalled, HasReturned, IsStopped}
use Rattle.trace_audit.specs.Tables.{call_row}
use Rattle.trace_audit.specs.Told.{call_of, reply_of}

-- clients make their calls in the order 1, 2, 3, .., each once and each after the one before it returned
pub record IsTidy (trace : List Moment) : Type 0 where
  pub positive : (c n : ℕ) → IsCalled trace c n → 0 < n
  pub dense : (c n m : ℕ) → IsCalled trace c n → 0 < m → m ≤ n → IsCalled trace c m
  pub answered : (c n m : ℕ) → IsCalled trace c n → IsCalled trace c m → m < n → HasReturned trace c m
  pub rising : (c n m i j : ℕ) (a b : Call) → slice_get trace i ≡ Some (Invoked c n a) → slice_get trace j ≡ Some (Invoked c m b) → n < m → i < j
  pub called_once : (c n i j : ℕ) (a b : Call) → slice_get trace i ≡ Some (Invoked c n a) → slice_get trace j ≡ Some (Invoked c n b) → i ≡ j
  pub returned_once : (c n i j : ℕ) (a b : Reply) → slice_get trace i ≡ Some (Returned c n a) → slice_get trace j ≡ Some (Returned c n b) → i ≡ j
  pub called_first : (c n j : ℕ) (a : Reply) → slice_get trace j ≡ Some (Returned c n a) → (i : ℕ) × (call : Call) × (slice_get trace i ≡ Some (Invoked c n call)) × (i < j)

-- the client's call of this number returned at this time
abbrev pub RepliedAt : List Moment → ℕ → ℕ → ℕ → Type 0
RepliedAt trace client number time = (reply : Reply) × (slice_get trace time ≡ Some (Returned client number reply))

-- the row is that of the client's call of this number
pub record IsRow (trace : List Moment) (client number : ℕ) (row : Row) : Type 0 where
  pub called : slice_get trace row.invoked ≡ Some (Invoked client number (call_of row.call.now))
  pub replied : MatchOption row.returned (¬ HasReturned trace client number) (λ r. slice_get trace r.0 ≡ Some (Returned client number (reply_of r.1.now)))

-- the calls are those of the trace
pub record IsTold (trace : List Moment) (calls : Calls) : Type 0 where
  pub moments : calls.moments ≡ length trace
  pub stopped : (c : ℕ) → MatchBool (set.contains nat_cmp calls.stopped c) (IsStopped trace c) (¬ IsStopped trace c)
  pub rows : (c n : ℕ) → MatchOption (call_row calls.table c n) (¬ IsCalled trace c n) (IsRow trace c n)
  pub tidy : IsTidy trace
