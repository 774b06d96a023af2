-- The blocks of a region: block b has the units 16 + 64 b to 79 + 64 b.
use Rattle.std.specs.Prelude.{ℕ, ◌+◌, ◌-◌, ◌*◌, ◌/◌, ◌%◌, ◌^◌, ◌<◌, ◌≤◌}
use Rattle.object_form.specs.Class.{units_of}

-- the block of a unit
abbrev pub block_of_unit : ℕ → ℕ
block_of_unit unit = (unit - 16) / 64

-- the number of the object that a unit belongs to, in a block of a class
abbrev pub object_of_unit : ℕ → ℕ → ℕ
object_of_unit unit class = (unit - 16) % 64 / 2 ^ class

-- a unit lies in a block
pub record IsInBlock (unit block : ℕ) : Type 0 where
  pub first : 16 + 64 * block ≤ unit
  pub last : unit ≤ 79 + 64 * block

-- a unit lies in an object of a block of a class
pub record IsInObject (unit class block object : ℕ) : Type 0 where
  pub number : object < 64 / units_of class
  pub first : 16 + 64 * block + object * units_of class ≤ unit
  pub last : unit < 16 + 64 * block + (object + 1) * units_of class
