-- The first object of a pool has room for a key of one byte and a value of 17.
use Rattle.std.proofs.Common.{◌≡◌, refl, true, arith}
use Rattle.machine.specs.ObjectNames.{names_object, object_in}
use Rattle.machine.proofs.ObjectNamesLemmas.{names_object-if}
use Rattle.race_slot.specs.Slot.{unpacked}
use Rattle.region_view.specs.Sizes.{Sizes}
use Rattle.kv_find.specs.Readings.{HasRoom}

first_is_named : (sizes : Sizes) → sizes.regions ≡ 1 → sizes.blocks ≡ 1 → names_object sizes 0 0x100010 ≡ true
first_is_named sizes regions blocks = names_object-if sizes 0 0x100010 (record { below = omega arith; region = (omega arith, omega arith); first = omega arith; last = omega arith; whole = refl })

pub first_has_room : (sizes : Sizes) → sizes.regions ≡ 1 → sizes.blocks ≡ 1 → HasRoom sizes 0xaf01000000100010 1 17
unfolding object_in unpacked
first_has_room sizes regions blocks = record {
  object = record { pointer = 0x100010; class = 0 };
  named = rw (first_is_named sizes regions blocks) refl;
  room = omega arith;
}
