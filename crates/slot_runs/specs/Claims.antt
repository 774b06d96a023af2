-- What holds of each event: how the deciding word changes, and who has won.
use Rattle.std.specs.Prelude.{◌≡◌, ◌≢◌, ℕ, ◌*◌, ◌<◌, ◌≤◌, true, List, [], ◌∷◌, length, slice_index, Some}
use Rattle.machine.specs.declared.slot_write.Wrote.TheVariants.{Won}
use Rattle.machine.specs.Places.{backup_count, slot_primary}
use Rattle.machine.specs.SlotWrite.{SlotWrite, Final, next}
use Rattle.slot_runs.specs.Run.{State, Event, Step, backup_word, deciding, happens, told}
use Rattle.snapshot_rules.specs.Winner.{times, winner}
use Rattle.verb_words.specs.Applied.{answer_to}
use Rattle.verb_words.specs.declared.verbs.Answer.TheVariants.{Word}
use Rattle.verb_words.specs.declared.verbs.Verb.TheVariants.{Swap}

-- the event is the final swap of a write
pub record IsFinalSwap (state : State) (event : Event) : Type 0 where
  pub writer : ℕ
  pub write : SlotWrite
  pub step : event ≡ Step writer
  pub writes : state.writers writer ≡ Some write
  pub last : write.phase ≡ Final

-- each backup has a first word in this round, and these are they
pub record AreFirstWords (state : State) (words : List ℕ) : Type 0 where
  pub long : length words ≡ backup_count state.view state.slot
  pub each : (backup : ℕ) → backup < length words → state.firsts backup ≡ Some (slice_index words backup)

-- every backup holds the word
abbrev pub IsEverywhere : State → ℕ → Type 0
IsEverywhere state word = (backup : ℕ) → backup < backup_count state.view state.slot → backup_word state backup ≡ word

-- what the final swap of this write finds and does
pub record Decides (state : State) (event : Event) (write : SlotWrite) : Type 0 where
  -- it swaps the primary from the expected word to the fresh one, and finds the expected word: it does not fail
  pub swaps : next write ≡ Swap (slot_primary state.view state.slot) write.expect write.fresh
  pub found : answer_to state.nodes (next write) true ≡ Word write.expect
  -- it makes the write's word the deciding one, which it was not
  pub made : deciding (happens state event) ≡ write.fresh
  pub changed : write.fresh ≢ deciding state
  -- that word is the winner of the round's first words, of which each backup has one
  pub words : List ℕ
  pub firsts : AreFirstWords state words
  pub wins : write.fresh ≡ winner words
  -- then every backup holds it
  pub everywhere : IsEverywhere (happens state event) write.fresh
  pub tells : told state event ≡ Won

-- a write that began in a round that has ended has in its list at most half as many words of its own as the slot has backups
abbrev pub HaveFewWords : State → Type 0
HaveFewWords state =
    (writer : ℕ) (write : SlotWrite) → state.writers writer ≡ Some write → state.began writer < state.round
    → 2 * times write.fresh write.list ≤ backup_count state.view state.slot

-- what holds of an event
pub record Holds (state : State) (event : Event) : Type 0 where
  -- the deciding word changes by the final swap of a write alone
  pub changes : deciding (happens state event) ≢ deciding state → IsFinalSwap state event
  -- who is told of having won has made its final swap
  pub won : told state event ≡ Won → IsFinalSwap state event
  pub decides : (swap : IsFinalSwap state event) → Decides state event swap.write
  pub few : HaveFewWords (happens state event)

-- it holds of each of the events
abbrev pub HoldsAlong : State → List Event → Type 0
HoldsAlong state [] = Unit {0}
HoldsAlong state (event ∷ events) = Holds state event × HoldsAlong (happens state event) events
