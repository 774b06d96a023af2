-- What holds of each event: how the deciding word changes, and who has won.
use Rattle.std.specs.Prelude.{◌≡◌, ◌≢◌, ℕ, ◌*◌, ◌<◌, ◌≤◌, ◌⊎◌, List, [], ◌∷◌, length, slice_index}
use Rattle.snapshot_rules.specs.Winner.{times, winner}
use Rattle.slot_rounds.specs.Slot.{Slot}
use Rattle.slot_rounds.specs.Write.{Write, Writing, Deciding, Won}
use Rattle.slot_rounds.specs.Run.{State, Event, Step, Install, happens, told}

-- each backup has a first word in this round
abbrev pub IsFull : Slot → Type 0
IsFull slot = (place : ℕ) → place < length slot.firsts → slice_index slot.firsts place ≢ slot.primary

-- every backup holds the word
abbrev pub IsEverywhere : Slot → ℕ → Type 0
IsEverywhere slot word = (place : ℕ) → place < length slot.backups → slice_index slot.backups place ≡ word

-- the event is the final swap of a write
pub record IsFinalSwap (state : State) (event : Event) : Type 0 where
  pub number : ℕ
  pub write : Write
  pub step : event ≡ Step number
  pub writes : state.writers number ≡ Writing write
  pub last : write.phase ≡ Deciding

-- the event installs the word of a write whose expected word was deciding
pub record IsInstalled (state : State) (event : Event) : Type 0 where
  pub number : ℕ
  pub write : Write
  pub backups : ℕ
  pub install : event ≡ Install backups write.fresh
  pub writes : state.writers number ≡ Writing write
  pub round : write.expected ≡ state.slot.primary

-- what a final swap of this write finds and does
pub record Decides (state : State) (event : Event) (write : Write) : Type 0 where
  -- it finds the expected word, so it does not fail
  pub found : state.slot.primary ≡ write.expected
  -- it makes the write's word the deciding one, which it was not
  pub made : (happens state event).slot.primary ≡ write.fresh
  pub changed : write.fresh ≢ state.slot.primary
  -- that word is the winner of the round's first words, of which each backup has one
  pub full : IsFull state.slot
  pub wins : write.fresh ≡ winner state.slot.firsts
  -- then every backup holds it
  pub everywhere : IsEverywhere (happens state event).slot write.fresh
  pub told : told state event ≡ Won

-- a write whose expected word is no longer deciding, so that its round has ended, has in its list at most
-- half as many words of its own as the slot has backups
abbrev pub HaveFewWords : State → Type 0
HaveFewWords state =
    (number : ℕ) (write : Write) → state.writers number ≡ Writing write → write.expected ≢ state.slot.primary
    → 2 * times write.fresh write.list ≤ length state.slot.backups

-- the rounds of the writes that have ended stay so: their expected words are not deciding again
abbrev pub StayEnded : State → State → Type 0
StayEnded before later =
    (number : ℕ) (write other : Write) → before.writers number ≡ Writing write → later.writers number ≡ Writing other
    → write.expected ≢ before.slot.primary → other.expected ≢ later.slot.primary

-- what holds of an event
pub record Holds (state : State) (event : Event) : Type 0 where
  -- the deciding word changes by the final swap of a write, or is installed
  pub changes : (happens state event).slot.primary ≢ state.slot.primary
      → IsFinalSwap state event ⊎ IsInstalled state event
  -- who is told that it has won has made its final swap
  pub won : told state event ≡ Won → IsFinalSwap state event
  pub decides : (swap : IsFinalSwap state event) → Decides state event swap.write
  pub few : HaveFewWords (happens state event)
  pub ended : StayEnded state (happens state event)

-- it holds of each of the events
abbrev pub HoldsAlong : State → List Event → Type 0
HoldsAlong state [] = Unit {0}
HoldsAlong state (event ∷ events) = Holds state event × HoldsAlong (happens state event) events
