-- What the runs begin with, and which events may happen in them.
use Rattle.std.specs.Prelude.{◌≡◌, ◌≢◌, ℕ, ◌<◌, false, List, [], ◌∷◌, ◌++◌, Option, Some, None}
use Rattle.machine.specs.Places.{backup_count, slot_backup, slot_primary}
use Rattle.machine.specs.SlotWrite.{SlotWrite}
use Rattle.region_view.specs.Placed.{Viewed}
use Rattle.slot_runs.specs.Run.{State, Event, Begin, Step, backup_word, deciding, happens, run}
use Rattle.verb_words.specs.declared.verbs.Place.{Place}
use Rattle.verb_words.specs.Words.{HasPlace, is_lost, word_at}

-- the memory has the place, on a node that is not lost
pub record IsLive (nodes : List (List ℕ)) (place : Place) : Type 0 where
  pub there : HasPlace nodes place
  pub live : is_lost nodes place.node ≡ false

-- the memory has the slot on the primary and on each backup
pub record HasSlot (view : Viewed) (slot : ℕ) (nodes : List (List ℕ)) : Type 0 where
  pub primary : IsLive nodes (slot_primary view slot)
  pub backups : (backup : ℕ) → backup < backup_count view slot → IsLive nodes (slot_backup view slot backup)

-- and all its words are equal
pub record IsSettled (view : Viewed) (slot : ℕ) (nodes : List (List ℕ)) : Type 0 where
  pub has : HasSlot view slot nodes
  pub equal : (backup : ℕ) → backup < backup_count view slot
      → word_at nodes (slot_backup view slot backup) ≡ word_at nodes (slot_primary view slot)

-- the word is on no replica, and no write under way writes it
pub record IsUnused (state : State) (word : ℕ) : Type 0 where
  pub primary : word ≢ deciding state
  pub backups : (backup : ℕ) → backup < backup_count state.view state.slot → word ≢ backup_word state backup
  pub written : (writer : ℕ) (write : SlotWrite) → state.writers writer ≡ Some write → word ≢ write.fresh

abbrev pub IsUnderWay : Option SlotWrite → Type 0
IsUnderWay None = ⊥
IsUnderWay (Some write) = Unit {0}

-- the writer has a write under way before, between and after these events: one and the same write, since only who has
-- none begins one
abbrev pub StaysUnderWay : State → List Event → ℕ → Type 0
StaysUnderWay state [] writer = IsUnderWay (state.writers writer)
StaysUnderWay state (event ∷ events) writer =
    IsUnderWay (state.writers writer) × StaysUnderWay (happens state event) events writer

-- the word is unused now, and was so at each moment since which some write has been under way: so since the oldest write
-- that is still under way began
pub record IsUnusedSince (start : State) (past : List Event) (word : ℕ) : Type 0 where
  pub now : IsUnused (run start past) word
  pub since : (before later : List Event) (writer : ℕ) → past ≡ before ++ later
      → StaysUnderWay (run start before) later writer → IsUnused (run start before) word

-- an event after these ones: who begins has no write under way, expects the deciding word, and writes a word that has been
-- unused; a verb may always be taken
abbrev pub MayHappen : State → List Event → Event → Type 0
MayHappen start past (Begin writer expect fresh) =
    ((run start past).writers writer ≡ None) × (expect ≡ deciding (run start past)) × IsUnusedSince start past fresh
MayHappen start past (Step writer) = Unit {0}

-- each of the events may happen after those before it
abbrev pub IsAllowed : State → List Event → List Event → Type 0
IsAllowed start past [] = Unit {0}
IsAllowed start past (event ∷ events) = MayHappen start past event × IsAllowed start (past ++ event ∷ []) events
