-- One slot and its writers, and what happens to them.
use Rattle.std.specs.Prelude.{ℕ, ◌==◌, if◌then◌else◌, List, [], ◌∷◌, length}
use Rattle.slot_rounds.specs.Slot.{Slot, settled, answer, apply, copied}
use Rattle.slot_rounds.specs.Write.{Writer, Idle, Writing, Told, Going, begun, left, verb_of, after_at, told_at}

-- the slot, and each writer by its number
pub record State : Type 0 where
  pub slot : Slot
  pub writers : ℕ → Writer

pub data Event : Type 0 where
  -- a writer begins a write: the word that it expects, the word that it writes
  Begin : ℕ → ℕ → ℕ → Event
  -- a writer's next verb
  Step : ℕ → Event
  -- a writer is broken off: a node is lost, the memory is sealed, or the writer stops
  Leave : ℕ → Event
  -- a writer gives up a write of which no backup has a first word
  Quit : ℕ → Event
  -- a backup gets a word
  Copy : ℕ → ℕ → Event
  -- so many new backups, and a primary, with one word
  Install : ℕ → ℕ → Event

-- all replicas have one word, and nobody writes
abbrev pub opening : ℕ → ℕ → State
opening backups word = record { slot = settled backups word; writers = λ number. Idle }

-- the writers, of whom one is now this
abbrev pub put : (ℕ → Writer) → ℕ → Writer → ℕ → Writer
put writers number writer other = if number == other then writer else writers other

-- a writer that is broken off
abbrev pub broken_off : Writer → Writer
broken_off Idle = Idle
broken_off (Writing write) = Writing (left write)

-- a writer once this word was installed: the write whose word it is is over
abbrev pub without : ℕ → Writer → Writer
without word Idle = Idle
without word (Writing write) = if write.fresh == word then Idle else Writing write

-- the state after the next verb of a writer
abbrev pub stepped : State → ℕ → Writer → State
stepped state number Idle = state
stepped state number (Writing write) =
    record {
      slot = apply state.slot (verb_of write);
      writers = put state.writers number
          (after_at write.phase (length state.slot.backups) write (answer state.slot (verb_of write)));
    }

abbrev pub happens : State → Event → State
happens state (Begin number expected fresh) =
    record { slot = state.slot; writers = put state.writers number (Writing (begun expected fresh)) }
happens state (Step number) = stepped state number (state.writers number)
happens state (Leave number) =
    record { slot = state.slot; writers = put state.writers number (broken_off (state.writers number)) }
happens state (Quit number) = record { slot = state.slot; writers = put state.writers number Idle }
happens state (Copy place word) = record { slot = copied state.slot place word; writers = state.writers }
happens state (Install backups word) =
    record { slot = settled backups word; writers = λ number. without word (state.writers number) }

-- what a writer is told by its next verb
abbrev pub told_to : Slot → Writer → Told
told_to slot Idle = Going
told_to slot (Writing write) = told_at write.phase write (answer slot (verb_of write))

-- what an event tells the writer whose verb it is
abbrev pub told : State → Event → Told
told state (Begin number expected fresh) = Going
told state (Step number) = told_to state.slot (state.writers number)
told state (Leave number) = Going
told state (Quit number) = Going
told state (Copy place word) = Going
told state (Install backups word) = Going

-- the state after these events
abbrev pub run : State → List Event → State
run state [] = state
run state (event ∷ events) = run (happens state event) events
