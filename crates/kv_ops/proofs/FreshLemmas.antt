-- Slot words of classes that no word has bits for.
use Rattle.std.proofs.Common.{◌≡◌, ℕ, ◌+◌, ◌*◌, ◌^◌, ◌%◌, ◌<◌, ◌≤◌, ◌==◌, false, arith}
use Rattle.std.proofs.Math.Nat.{mod-le}
use Rattle.std.proofs.Math.Pow.{pow_mono}
use Rattle.std.proofs.lemmas.Bool.{ne_eqb}

pub wide-is-other : (finger class pointer word : ℕ) → 16 ≤ class → word < 2 ^ 64 → ((finger * 2 ^ 56 + 2 ^ class * 2 ^ 48 + pointer) == word) ≡ false
wide-is-other finger class pointer word wide below =
    let big = pow_mono {i = 16} {j = class} wide in
    ne_eqb (finger * 2 ^ 56 + 2 ^ class * 2 ^ 48 + pointer) word (λ same. omega (arith, big, same, below))

-- a word of a class that it has bits for is one of 65 bits at most
pub narrow-is-small : (class : ℕ) → class < 16 → 2 ^ class ≤ 32768
narrow-is-small class narrow = pow_mono {i = class} {j = 15} (omega (arith, narrow))

pub narrow-fits : (finger class pointer : ℕ) → finger < 256 → class < 16 → pointer < 2 ^ 32
    → (finger * 2 ^ 56 % 2 ^ 128 + 1 * 2 ^ class % 2 ^ 128 * 2 ^ 48 % 2 ^ 128 + pointer) < 2 ^ 128
narrow-fits finger class pointer of_finger narrow of_pointer =
    let small = narrow-is-small class narrow in
    let first = mod-le (finger * 2 ^ 56) (2 ^ 128) in
    let units = mod-le (1 * 2 ^ class) (2 ^ 128) in
    let second = mod-le (1 * 2 ^ class % 2 ^ 128 * 2 ^ 48) (2 ^ 128) in
    omega (arith, small, first, units, second, of_finger, of_pointer)
