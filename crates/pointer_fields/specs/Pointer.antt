-- A pointer of 28 bits: the region in bits 20 to 27, the unit in bits 0 to 19.
use Rattle.std.specs.Prelude.{ℕ, ◌+◌, ◌*◌, ◌/◌, ◌%◌, ◌^◌}

abbrev pub pointer_of : ℕ → ℕ → ℕ
pointer_of region unit = region * 2 ^ 20 + unit

abbrev pub region_of : ℕ → ℕ
region_of pointer = pointer / 2 ^ 20

abbrev pub unit_of : ℕ → ℕ
unit_of pointer = pointer % 2 ^ 20
