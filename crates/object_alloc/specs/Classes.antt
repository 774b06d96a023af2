-- What the program has of one class, as the machine's stock of a class.
use Rattle.std.specs.Prelude.{ℕ, ◌^◌, ◌<◌, ◌≤◌, ◌&&◌, ◌==◌, if◌then◌else◌, Option, Some, None, slice_index_or, slice_set}
use Rattle.std.specs.Int.{trailing_zeros, w64}
use Rattle.std.specs.Vec.{vec_capacity}
use Rattle.machine.specs.Choosing.{no_block}
use Rattle.machine.specs.ObjectNames.{block_of, number_of, pointer_to}
use Rattle.machine.specs.Stock as machine
use Rattle.machine.specs.Stock.{OwnBlock, scanned_block}
use Rattle.object_alloc.specs.declared.blocks.ClassStock.{ClassStock}
use Rattle.object_alloc.specs.declared.blocks.Spot.{Spot}
use Rattle.pointer_fields.specs.Pointer.{region_of, unit_of}

abbrev pub class_of : ClassStock → machine.ClassStock
class_of stock = record { own = stock.own.items; reserve = stock.reserve; awaited = stock.awaited }

-- how many blocks it has room for
abbrev pub room_of : ClassStock → ℕ
room_of stock = vec_capacity stock.own

-- where it stands, if it is an object: a pointer to a unit of a block
abbrev pub HasUnit : Option ℕ → Type 0
HasUnit None = Unit {0}
HasUnit (Some pointer) = (pointer < 2 ^ 28) × (16 ≤ unit_of pointer)

abbrev pub spot_of : ℕ → ℕ → Spot
spot_of class pointer = record { region = region_of pointer; block = block_of pointer; bit = 2 ^ number_of pointer class }

-- the bit of what stands in a block
abbrev pub spot_bit : Option Spot → OwnBlock → ℕ
spot_bit None own = 0
spot_bit (Some spot) own = if (spot.region == own.region) && (spot.block == own.block) then spot.bit else 0

-- the object of a block that the lowest of some bits is for
abbrev pub pointer_at : OwnBlock → ℕ → ℕ → ℕ
pointer_at own class bits = pointer_to own.region own.block class (trailing_zeros w64 bits)

-- a bitmap was read of block i
abbrev pub with_scanned_block : ℕ → machine.ClassStock → ℕ → ℕ → machine.ClassStock
with_scanned_block class of_class i found =
    record of_class { own = slice_set of_class.own i (scanned_block class of_class (slice_index_or of_class.own i no_block) found) }
