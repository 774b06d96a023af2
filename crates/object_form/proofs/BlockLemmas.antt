use Rattle.std.proofs.Common.{◌≡◌, ℕ, zero, suc, ◌-◌, ◌%◌, ◌^◌, ◌<◌, ◌≤◌, arith}
use Rattle.std.proofs.Math.Nat.{div-le_self}
use Rattle.object_form.specs.Block.{block_of_unit, object_of_unit, IsInBlock, IsInObject}

-- a unit lies in its block
pub block_of_unit-holds : (unit : ℕ) → 16 ≤ unit → IsInBlock unit (block_of_unit unit)
block_of_unit-holds unit free = record { first = omega arith; last = omega arith }

pub IsInBlock-block_of_unit : (unit block : ℕ) → 16 ≤ unit → block ≡ block_of_unit unit → IsInBlock unit block
IsInBlock-block_of_unit unit block free same = record { first = omega arith; last = omega arith }

-- and in no other
pub block_of_unit-only : (unit block : ℕ) → IsInBlock unit block → block ≡ block_of_unit unit
block_of_unit-only unit block lies = omega (arith, lies)

-- a unit lies in its object, in its block
pub object_of_unit-holds : (unit class : ℕ) → 16 ≤ unit → class < 6
    → IsInObject unit class (block_of_unit unit) (object_of_unit unit class)
object_of_unit-holds unit zero free small =
    record { number = omega arith; first = omega arith; last = omega arith }
object_of_unit-holds unit (suc zero) free small =
    record { number = omega arith; first = omega arith; last = omega arith }
object_of_unit-holds unit (suc (suc zero)) free small =
    record { number = omega arith; first = omega arith; last = omega arith }
object_of_unit-holds unit (suc (suc (suc zero))) free small =
    record { number = omega arith; first = omega arith; last = omega arith }
object_of_unit-holds unit (suc (suc (suc (suc zero)))) free small =
    record { number = omega arith; first = omega arith; last = omega arith }
object_of_unit-holds unit (suc (suc (suc (suc (suc zero))))) free small =
    record { number = omega arith; first = omega arith; last = omega arith }
object_of_unit-holds unit (suc (suc (suc (suc (suc (suc n)))))) free small = absurd (omega arith)

-- and in no other
pub object_of_unit-only : (unit class block object : ℕ) → class < 6 → IsInObject unit class block object
    → (block ≡ block_of_unit unit) × (object ≡ object_of_unit unit class)
object_of_unit-only unit zero block object small lies = (omega (arith, lies), omega (arith, lies))
object_of_unit-only unit (suc zero) block object small lies = (omega (arith, lies), omega (arith, lies))
object_of_unit-only unit (suc (suc zero)) block object small lies =
    (omega (arith, lies), omega (arith, lies))
object_of_unit-only unit (suc (suc (suc zero))) block object small lies =
    (omega (arith, lies), omega (arith, lies))
object_of_unit-only unit (suc (suc (suc (suc zero)))) block object small lies =
    (omega (arith, lies), omega (arith, lies))
object_of_unit-only unit (suc (suc (suc (suc (suc zero))))) block object small lies =
    (omega (arith, lies), omega (arith, lies))
object_of_unit-only unit (suc (suc (suc (suc (suc (suc n)))))) block object small lies =
    absurd (omega arith)

-- an object's number is below 64
pub object_of_unit-lt : (unit class : ℕ) → object_of_unit unit class < 64
object_of_unit-lt unit class =
    let le = div-le_self ((unit - 16) % 64) (2 ^ class) in
    omega (arith, le)
