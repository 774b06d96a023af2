-- Which events may happen in a state: what is asked of those who begin, leave, copy and install.
use Rattle.std.specs.Prelude.{◌≡◌, ◌≢◌, ℕ, ◌<◌, ◌⊎◌, List, [], ◌∷◌, length, slice_index}
use Rattle.slot_rounds.specs.Slot.{Slot}
use Rattle.slot_rounds.specs.Write.{Write, Idle, Writing, Left}
use Rattle.slot_rounds.specs.Run.{State, Event, Begin, Step, Leave, Quit, Copy, Install, happens}

-- no replica holds the word
pub record IsAbsent (slot : Slot) (word : ℕ) : Type 0 where
  pub primary : word ≢ slot.primary
  pub backups : (place : ℕ) → place < length slot.backups → word ≢ slice_index slot.backups place

-- some replica holds the word
abbrev pub IsHeld : Slot → ℕ → Type 0
IsHeld slot word = (word ≡ slot.primary) ⊎ ((place : ℕ) × (place < length slot.backups) × (word ≡ slice_index slot.backups place))

-- the word is on no replica, and is neither the fresh nor the expected word of a write under way
pub record IsFresh (state : State) (word : ℕ) : Type 0 where
  pub absent : IsAbsent state.slot word
  pub written : (number : ℕ) (write : Write) → state.writers number ≡ Writing write → word ≢ write.fresh
  pub expected : (number : ℕ) (write : Write) → state.writers number ≡ Writing write → word ≢ write.expected

-- every write under way was broken off
abbrev pub AllLeft : State → Type 0
AllLeft state = (number : ℕ) (write : Write) → state.writers number ≡ Writing write → write.phase ≡ Left

-- no backup has this first word
abbrev pub IsNowhereFirst : Slot → ℕ → Type 0
IsNowhereFirst slot word = (place : ℕ) → place < length slot.firsts → slice_index slot.firsts place ≢ word

abbrev pub MayHappen : State → Event → Type 0
MayHappen state (Begin number expected fresh) =
    (state.writers number ≡ Idle) × (expected ≡ state.slot.primary) × IsFresh state fresh
MayHappen state (Step number) = Unit {0}
MayHappen state (Leave number) = Unit {0}
MayHappen state (Quit number) =
    (write : Write) → state.writers number ≡ Writing write → IsNowhereFirst state.slot write.fresh
MayHappen state (Copy place word) = (place < length state.slot.backups) × IsHeld state.slot word × AllLeft state
MayHappen state (Install backups word) = (0 < backups) × IsHeld state.slot word × AllLeft state

-- each of the events may happen when it does
abbrev pub IsAllowed : State → List Event → Type 0
IsAllowed state [] = Unit {0}
IsAllowed state (event ∷ events) = MayHappen state event × IsAllowed (happens state event) events
