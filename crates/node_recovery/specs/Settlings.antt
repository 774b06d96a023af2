-- A settling of the program as one of the machine, and what is true of it.
use Rattle.std.specs.Prelude.{◌≡◌, ℕ, ◌+◌, ◌-◌, ◌%◌, ◌^◌, ◌<◌, ◌≤◌, Bool, true, false, nat_lt, if◌then◌else◌, List, Option, Some, None}
use Rattle.machine.specs.Settling as machine
use Rattle.machine.specs.Settling.{IsSettling, Settling, source_view, targets}
use Rattle.machine.specs.Copying.{copied_words, read_place_of}
use Rattle.node_recovery.specs.declared.program.Phase.{Phase}
use Rattle.node_recovery.specs.declared.program.Phase.TheVariants.{ReadEpoch, Seal, ReadBegin, ReadPause, ReadStatus, ReadWord, WriteWord, Open}
use Rattle.region_view.specs.Placed.{in_mask}
use Rattle.region_view.specs.Sizes.{Sizes}

abbrev pub phase_of : Phase → machine.Phase
phase_of ReadEpoch = machine.ReadEpoch
phase_of Seal = machine.Seal
phase_of (ReadBegin client) = machine.ReadBegin client
phase_of (ReadPause client begin) = machine.ReadPause client begin
phase_of (ReadStatus node live) = machine.ReadStatus node live
phase_of ReadWord = machine.ReadWord
phase_of (WriteWord word target) = machine.WriteWord word target
phase_of Open = machine.Open

-- whether the next view is opened next
abbrev pub is_opening : machine.Phase → Bool
is_opening machine.Open = true
is_opening phase = false

abbrev pub settling_at : Sizes → ℕ → ℕ → ℕ → ℕ → ℕ → ℕ → Phase → Settling
settling_at sizes stopped sealed sources mask region offset phase = record {
  shape = sizes;
  stopped = stopped;
  sealed = sealed;
  sources = sources;
  mask = mask;
  region = region;
  offset = offset;
  phase = phase_of phase;
}

-- at another word
abbrev pub at_word : Settling → ℕ → ℕ → Settling
at_word settling region offset = record settling { region = region; offset = offset }

-- the word that is copied after one, if there is one: its region and its offset there
abbrev pub word_after : Sizes → ℕ → ℕ → Option (ℕ × ℕ)
word_after sizes region offset =
    if nat_lt (offset + 1) (copied_words sizes region) then Some (region, offset + 1)
    else (if nat_lt region sizes.regions then Some (region + 1, 0) else None)

-- a node of the pool is asked, and of those before it these are live
abbrev pub AsksNode : Sizes → ℕ → ℕ → Type 0
AsksNode sizes node live = (1 ≤ node) × (node ≤ sizes.nodes) × (live < 2 ^ (node - 1))

-- while a word is copied, its places are at hand
abbrev pub HasTargets : machine.Phase → Settling → ℕ × ℕ → List (ℕ × ℕ) → Type 0
HasTargets machine.ReadWord settling from to =
    (from ≡ read_place_of (source_view settling) settling.region settling.offset) × (to ≡ targets settling)
HasTargets (machine.WriteWord word target) settling from to = to ≡ targets settling
HasTargets phase settling from to = Unit {0}

-- a word is being copied
abbrev pub CopiesWord : machine.Phase → Type 0
CopiesWord machine.ReadWord = Unit {0}
CopiesWord (machine.WriteWord word target) = Unit {0}
CopiesWord phase = ⊥

-- the pause word is read of a client that is inside a call and was not handed in as stopped
abbrev pub AsksClient : machine.Phase → Settling → Type 0
AsksClient (machine.ReadPause client begin) settling = (begin % 2 ≡ 1) × (in_mask settling.stopped client ≡ false)
AsksClient phase settling = Unit {0}

-- what is true of each settling, with the places at hand
pub record IsHeld (settling : Settling) (from : ℕ × ℕ) (to : List (ℕ × ℕ)) : Type 0 where
  pub state : IsSettling settling.shape settling
  pub at_hand : HasTargets settling.phase settling from to
  pub waits : AsksClient settling.phase settling
