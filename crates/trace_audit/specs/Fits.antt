-- When the lines of an output can be the trace of clients that make one call after the other.
use Rattle.std.specs.Prelude.{◌≡◌, ℕ, ◌+◌, ◌<◌, ◌≤◌, ◌⊎◌, List, Some, slice_get, take}
use Rattle.map_model.specs.declared.calls.Call.{Call}
use Rattle.map_model.specs.declared.calls.Reply.{Reply}
use Rattle.map_model.specs.Trace.{Moment, Invoked, Returned, Stopped}
use Rattle.script_text.specs.declared.out_lines.OutLine.{OutLine}
use Rattle.script_text.specs.declared.out_lines.OutLine.TheVariants as line
use Rattle.trace_audit.specs.Told.{trace_of}

-- the client made its call of this number
abbrev pub IsCalled : List Moment → ℕ → ℕ → Type 0
IsCalled trace client number = (at : ℕ) × (call : Call) × (slice_get trace at ≡ Some (Invoked client number call))

-- this call returned
abbrev pub HasReturned : List Moment → ℕ → ℕ → Type 0
HasReturned trace client number = (at : ℕ) × (reply : Reply) × (slice_get trace at ≡ Some (Returned client number reply))

-- this call was made and has not returned
abbrev pub IsOpen : List Moment → ℕ → ℕ → Type 0
IsOpen trace client number = IsCalled trace client number × ¬ HasReturned trace client number

-- the client stopped
abbrev pub IsStopped : List Moment → ℕ → Type 0
IsStopped trace client = (at : ℕ) × (slice_get trace at ≡ Some (Stopped client))

-- the client's latest call has this number
abbrev pub IsLatest : List Moment → ℕ → ℕ → Type 0
IsLatest trace client number = (at : ℕ) × (call : Call) × (slice_get trace at ≡ Some (Invoked client number call))
    × ((other other_number : ℕ) (other_call : Call) → slice_get trace other ≡ Some (Invoked client other_number other_call) → other ≤ at)

-- the number is one more than that of the client's latest call, or 1 where it made none
abbrev pub IsNext : List Moment → ℕ → ℕ → Type 0
IsNext trace client number = ((last : ℕ) × IsLatest trace client last × (number ≡ last + 1)) ⊎ (((any : ℕ) → ¬ IsCalled trace client any) × (number ≡ 1))

-- the client may make its call of this number: it has no open call, did not stop, and the number is the next
abbrev pub MayCall : List Moment → ℕ → ℕ → Type 0
MayCall trace client number = ((any : ℕ) → ¬ IsOpen trace client any) × (¬ IsStopped trace client) × IsNext trace client number

-- the client's call of this number may return: it is open, and the client did not stop
abbrev pub MayReturn : List Moment → ℕ → ℕ → Type 0
MayReturn trace client number = IsOpen trace client number × (¬ IsStopped trace client)

-- the line may come after the trace
abbrev pub FitsAfter : List Moment → OutLine → Type 0
FitsAfter trace (line.Called client number call) = MayCall trace client number
FitsAfter trace (line.Ended client number reply) = MayReturn trace client number
FitsAfter trace out = Unit {0}

-- the line at this place may come after those before it
abbrev pub FitsAt : List OutLine → ℕ → Type 0
FitsAt lines at = (out : OutLine) → slice_get lines at ≡ Some out → FitsAfter (trace_of (take at lines)) out

-- each line may come after those before it
abbrev pub Fits : List OutLine → Type 0
Fits lines = (at : ℕ) → FitsAt lines at

-- the line of this number, counted from 1, is the first that does not fit
abbrev pub IsFirstUnfit : List OutLine → ℕ → Type 0
IsFirstUnfit lines number = (at : ℕ) × (number ≡ at + 1) × (¬ FitsAt lines at) × ((earlier : ℕ) → earlier < at → FitsAt lines earlier)
