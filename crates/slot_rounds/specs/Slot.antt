-- One replicated slot, and what a verb finds and makes of it.
use Rattle.std.specs.Prelude.{ℕ, ◌==◌, ◌&&◌, if◌then◌else◌, List, length, replicate, slice_index, slice_set}

-- a slot: the primary's word decides what the slot holds
pub record Slot : Type 0 where
  pub primary : ℕ
  pub backups : List ℕ
  -- of each backup the first word that took the place of the deciding word there in this round, and
  -- the deciding word where none has
  pub firsts : List ℕ

-- the slot with this word on the primary and on so many backups
abbrev pub settled : ℕ → ℕ → Slot
settled count word = record { primary = word; backups = replicate count word; firsts = replicate count word }

-- a verb on one replica of the slot
pub data Verb : Type 0 where
  -- the backup's number, the word that is expected there, the word to put in its place
  SwapBackup : ℕ → ℕ → ℕ → Verb
  ReadPrimary : Verb
  -- the word that is expected, the word to put in its place
  SwapPrimary : ℕ → ℕ → Verb

-- what a verb answers: the word that it finds
abbrev pub answer : Slot → Verb → ℕ
answer slot (SwapBackup place old new) = slice_index slot.backups place
answer slot ReadPrimary = slot.primary
answer slot (SwapPrimary old new) = slot.primary

-- the first words once a backup was swapped from one word to another: the first swap that takes the
-- place of the deciding word counts
abbrev pub firsts_after : Slot → ℕ → ℕ → ℕ → List ℕ
firsts_after slot place old new =
    if old == slot.primary && slice_index slot.firsts place == slot.primary then slice_set slot.firsts place new
    else slot.firsts

-- the slot once a backup was swapped from one word to another
abbrev pub swapped : Slot → ℕ → ℕ → ℕ → Slot
swapped slot place old new =
    record {
      primary = slot.primary;
      backups = slice_set slot.backups place new;
      firsts = firsts_after slot place old new;
    }

-- the slot once its deciding word was changed: a new round, in which no backup has a first word
abbrev pub decided : Slot → ℕ → Slot
decided slot new =
    record { primary = new; backups = slot.backups; firsts = replicate (length slot.backups) new }

-- what a verb makes of the slot: a swap changes a word only where it finds the expected one
abbrev pub apply : Slot → Verb → Slot
apply slot (SwapBackup place old new) =
    if slice_index slot.backups place == old then swapped slot place old new else slot
apply slot ReadPrimary = slot
apply slot (SwapPrimary old new) = if slot.primary == old then decided slot new else slot

-- the slot once a word was copied to a backup: what the backups hold counts as their first words
abbrev pub copied : Slot → ℕ → ℕ → Slot
copied slot place word =
    record {
      primary = slot.primary;
      backups = slice_set slot.backups place word;
      firsts = slice_set slot.backups place word;
    }
