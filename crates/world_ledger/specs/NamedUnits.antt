-- The units that slots name, a bit for each unit of a pool with the most blocks.
use Rattle.std.specs.Prelude.{◌≡◌, ℕ, ◌+◌, ◌-◌, ◌*◌, ◌/◌, ◌%◌, Bool, List, slice_index, is_some}
use Rattle.machine.specs.BitChange.{has_bit}
use Rattle.machine_world.specs.Readings.{slot_of_present}
use Rattle.pointer_fields.specs.Pointer.{region_of, unit_of}
use Rattle.region_view.specs.Sizes.{Sizes}
use Rattle.world_ledger.specs.Seen.{IsUnit}

-- the place of a unit among those of all regions, where each region has 64 blocks
abbrev pub unit_place : ℕ → ℕ
unit_place pointer = (region_of pointer - 1) * 4096 + (unit_of pointer - 16)

-- whether the unit of a pointer is one of these
abbrev pub has_unit : List ℕ → ℕ → Bool
has_unit units pointer = has_bit (slice_index units (unit_place pointer / 64)) (unit_place pointer % 64)

-- whether the deciding word of a slot names the object of a pointer
abbrev pub is_named : Sizes → List (List ℕ) → ℕ → Bool
is_named sizes nodes pointer = is_some (slot_of_present sizes nodes pointer)

-- the units are those of the objects that slots name
abbrev pub AreNamed : Sizes → List (List ℕ) → List ℕ → Type 0
AreNamed sizes nodes units = (pointer : ℕ) → IsUnit sizes pointer → has_unit units pointer ≡ is_named sizes nodes pointer
