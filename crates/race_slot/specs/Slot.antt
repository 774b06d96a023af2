-- A slot of the index and its word of 8 bytes.
use Rattle.std.specs.Prelude.{ℕ, ◌+◌, ◌*◌, ◌/◌, ◌%◌, ◌^◌, ◌<◌, ◌≤◌, ◌==◌, nat_lt, if◌then◌else◌, Option, Some, None}
use Rattle.pointer_fields.specs.Pointer.{region_of}
use Rattle.race_slot.specs.declared.Slot.{Slot}

-- what may stand in a slot: no region is numbered 0, and no pair is in no units
pub record IsSlot (slot : Slot) : Type 0 where
  pub finger : slot.finger < 2 ^ 8
  pub units : 1 ≤ slot.units
  pub units_below : slot.units < 2 ^ 8
  pub pointer : slot.pointer < 2 ^ 28
  pub region : 1 ≤ region_of slot.pointer

-- the word: the fingerprint in bits 56 to 63, the units in bits 48 to 55, the pointer in bits 0 to 27
abbrev pub slot_word : Slot → ℕ
slot_word slot = slot.finger * 2 ^ 56 + slot.units * 2 ^ 48 + slot.pointer

-- what stands in a word in the bits of the fields
abbrev pub fields_of : ℕ → Slot
fields_of word = record {
  finger = word / 2 ^ 56;
  units = word / 2 ^ 48 % 2 ^ 8;
  pointer = word % 2 ^ 28;
}

-- the slot that packs to a word, if there is one
unfoldable pub unpacked : ℕ → Option Slot
unpacked word =
    if nat_lt word (2 ^ 64)
    then if (fields_of word).units == 0
    then None
    else if region_of (fields_of word).pointer == 0
    then None
    else if word / 2 ^ 28 % 2 ^ 20 == 0
    then Some (fields_of word)
    else None
    else None
