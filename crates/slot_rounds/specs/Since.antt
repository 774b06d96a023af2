-- Which events may happen, where what is asked of a fresh word speaks of the past: it has not been used
-- since the oldest write that is still under way began.
use Rattle.std.specs.Prelude.{◌≡◌, ◌≢◌, ℕ, List, [], ◌∷◌, ◌++◌}
use Rattle.slot_rounds.specs.Write.{Write, Writer, Idle, Writing}
use Rattle.slot_rounds.specs.Run.{State, Event, Begin, happens, run}
use Rattle.slot_rounds.specs.Allowed.{IsAbsent, MayHappen}

-- the word is on no replica, and no write under way writes it
pub record IsUnused (state : State) (word : ℕ) : Type 0 where
  pub absent : IsAbsent state.slot word
  pub written : (number : ℕ) (write : Write) → state.writers number ≡ Writing write → word ≢ write.fresh

abbrev pub IsUnderWay : Writer → Type 0
IsUnderWay Idle = ⊥
IsUnderWay (Writing write) = Unit {0}

-- the writer has a write under way before, between and after these events, which is one and the same write
abbrev pub StaysUnderWay : State → List Event → ℕ → Type 0
StaysUnderWay state [] number = IsUnderWay (state.writers number)
StaysUnderWay state (event ∷ events) number =
    IsUnderWay (state.writers number) × StaysUnderWay (happens state event) events number

-- the word is unused now, and was so at each moment since which some write has been under way
pub record IsUnusedSince (start : State) (past : List Event) (word : ℕ) : Type 0 where
  pub now : IsUnused (run start past) word
  pub since : (before later : List Event) (number : ℕ) → past ≡ before ++ later
      → StaysUnderWay (run start before) later number → IsUnused (run start before) word

-- an event after these ones: a write begins with the deciding word as the expected one, and its own word
-- has been unused
abbrev pub MayHappenSince : State → List Event → Event → Type 0
MayHappenSince start past (Begin number expected fresh) =
    ((run start past).writers number ≡ Idle) × (expected ≡ (run start past).slot.primary)
    × IsUnusedSince start past fresh
MayHappenSince start past event = MayHappen (run start past) event

abbrev pub IsAllowedSince : State → List Event → List Event → Type 0
IsAllowedSince start past [] = Unit {0}
IsAllowedSince start past (event ∷ events) =
    MayHappenSince start past event × IsAllowedSince start (past ++ event ∷ []) events
