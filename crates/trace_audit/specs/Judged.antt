-- What is known where an entry of the list is judged.
use Rattle.std.specs.Prelude.{◌≡◌, ℕ, ◌+◌, ◌≤◌, List, Option, Some, None, min, slice_get, take, length, MatchBool, MatchOption}
use Rattle.std.specs.BTreeSet.{BTreeSet}
use Rattle.map_model.specs.declared.calls.Reply.{Reply}
use Rattle.map_model.specs.declared.entries.Entry.{Entry}
use Rattle.map_model.specs.declared.held_map.HeldMap.{HeldMap}
use Rattle.map_model.specs.Held.{map_of}
use Rattle.map_model.specs.Map.{empty_map, map_after}
use Rattle.map_model.specs.Trace.{Moment, Returned}
use Rattle.trace_audit.specs.declared.calls.Calls.{Calls}
use Rattle.trace_audit.specs.declared.judging.Judged.{Judged}
use Rattle.trace_audit.specs.declared.judging.Judged.TheVariants as judged
use Rattle.trace_audit.specs.Faults.{AreFaultless, IsListedBefore}
use Rattle.trace_audit.specs.Tables.{is_listed}
use Rattle.trace_audit.specs.Traced.{IsTold}
use Rattle.trace_audit.specs.Verdicts.{IsFirstAtFault}

-- the names are those of the entries before this place
abbrev pub AreNames : List Entry → ℕ → BTreeSet (ℕ × ℕ) → Type 0
AreNames entries place names = (client number : ℕ) → MatchBool (is_listed names client number) (IsListedBefore entries place client number) (¬ IsListedBefore entries place client number)

-- at this time the call of an entry returned that does not stand before this place
abbrev pub ReturnsAt : List Moment → List Entry → ℕ → ℕ → Type 0
ReturnsAt trace entries place time = (at : ℕ) × (e : Entry) × (reply : Reply) × (place ≤ at) × (slice_get entries at ≡ Some e) × (slice_get trace time ≡ Some (Returned e.client e.number reply))

-- the earliest such time, if there is one
abbrev pub IsEarliest : List Moment → List Entry → ℕ → Option ℕ → Type 0
IsEarliest trace entries place earliest = MatchOption earliest ((time : ℕ) → ¬ ReturnsAt trace entries place time) (λ time. ReturnsAt trace entries place time × ((other : ℕ) → ReturnsAt trace entries place other → time ≤ other))

-- the earlier of two times, where there are any
abbrev pub earlier_time : Option ℕ → Option ℕ → Option ℕ
earlier_time None other = other
earlier_time (Some a) None = Some a
earlier_time (Some a) (Some b) = Some (min a b)

-- the calls, the names and the map are those by which the entry at this place is judged
pub record IsPlace (trace : List Moment) (entries : List Entry) (place : ℕ) (calls : Calls) (names : BTreeSet (ℕ × ℕ)) (held : HeldMap) (later : Option ℕ) : Type 0 where
  pub told : IsTold trace calls
  pub listed : AreNames entries place names
  pub replies : map_of held ≡ map_after empty_map (take place entries)
  pub returns : IsEarliest trace entries (place + 1) later

-- the list is judged: the names of its entries, none at fault, or the first at fault
abbrev pub IsJudged : List Moment → List Entry → Judged → Type 0
IsJudged trace entries (judged.Sound names) = AreFaultless trace entries (length entries) × AreNames entries (length entries) names
IsJudged trace entries (judged.Faulty at fault client number) = IsFirstAtFault trace entries at fault client number
