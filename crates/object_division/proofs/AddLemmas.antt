-- An add that finds the bit as it is not wanted changes this bit, and no other.
use Rattle.std.proofs.Common.{◌≡◌, ◌≢◌, ℕ, ◌+◌, ◌*◌, ◌%◌, ◌^◌, ◌<◌, ◌==◌, Bool, true, false, not, sym, ◌∙◌, ap, subst, arith, inl, inr, eq-eqb, ne_eqb}
use Rattle.std.specs.Prelude.{bit_or, bit_xor, max}
use Rattle.std.specs.Int.{bit_at}
use Rattle.std.proofs.Math.Pow.{pow-lt}
use Rattle.std.proofs.lemmas.Bool.{cases_eq, eqb-false, eqb-true}
use Rattle.std.proofs.lemmas.Nat.{or_disjoint, or_lt, xor_lt}
use Rattle.std.proofs.lemmas.Nat.Bits.{and_pow, bit_at-lt, bit_at-pow_other, bit_at-pow_same, bit_at_or, bit_at_xor, same_from_bits}
use Rattle.machine.specs.BitChange.{amount, has_bit}

-- a power of two within a word
pow_within : (j : ℕ) → j < 64 → 2 ^ j < 2 ^ 64
pow_within j below = pow-lt below

-- ---- a clear bit is set

added : (word j : ℕ) → bit_at word j ≡ 0 → bit_or word (2 ^ j) ≡ word + 2 ^ j
added word j clear = or_disjoint word (2 ^ j) (and_pow word j ∙ (ap (λ b. b * 2 ^ j) clear ∙ omega arith))

bit_at-added_same : (word j : ℕ) → bit_at (bit_or word (2 ^ j)) j ≡ 1
bit_at-added_same word j =
    bit_at_or word (2 ^ j) j ∙ (ap (λ b. max (bit_at word j) b) (bit_at-pow_same j) ∙ most (bit_at word j) (bit_at-lt word j))
  where
    most : (b : ℕ) → b < 2 → max b 1 ≡ 1
    most b below = omega arith

bit_at-added_other : (word j i : ℕ) → i ≢ j → bit_at (bit_or word (2 ^ j)) i ≡ bit_at word i
bit_at-added_other word j i apart =
    bit_at_or word (2 ^ j) i ∙ (ap (λ b. max (bit_at word i) b) (bit_at-pow_other j i apart) ∙ omega arith)

set_word : (word j : ℕ) → word < 2 ^ 64 → j < 64 → bit_at word j ≡ 0 → (word + amount true j) % 2 ^ 64 ≡ bit_or word (2 ^ j)
set_word word j small below clear =
    let sum = added word j clear in
    let within = or_lt 64 word (2 ^ j) small (pow_within j below) in
    omega (arith, sum, within)

-- ---- a set bit is cleared

without_bit : (word j : ℕ) → bit_at word j ≡ 1 → bit_at (bit_xor word (2 ^ j)) j ≡ 0
without_bit word j is =
    bit_at_xor word (2 ^ j) j
    ∙ (ap (λ b. (b + bit_at (2 ^ j) j) % 2) is ∙ ap (λ b. (1 + b) % 2) (bit_at-pow_same j))

bit_at-without_other : (word j i : ℕ) → i ≢ j → bit_at (bit_xor word (2 ^ j)) i ≡ bit_at word i
bit_at-without_other word j i apart =
    bit_at_xor word (2 ^ j) i
    ∙ (ap (λ b. (bit_at word i + b) % 2) (bit_at-pow_other j i apart) ∙ same (bit_at word i) (bit_at-lt word i))
  where
    same : (b : ℕ) → b < 2 → (b + 0) % 2 ≡ b
    same b below = omega arith

-- the bit put back gives the word again
put_back : (word j : ℕ) → bit_at word j ≡ 1 → bit_or (bit_xor word (2 ^ j)) (2 ^ j) ≡ word
put_back word j is =
    same_from_bits (bit_or (bit_xor word (2 ^ j)) (2 ^ j)) word
    (λ i.
    elim (cases_eq i j) [
      | inl same ↦
          subst (λ k. bit_at (bit_or (bit_xor word (2 ^ j)) (2 ^ j)) k ≡ bit_at word k) (sym same)
          (bit_at-added_same (bit_xor word (2 ^ j)) j ∙ sym is)
      | inr apart ↦
          bit_at-added_other (bit_xor word (2 ^ j)) j i apart ∙ bit_at-without_other word j i apart
    ])

clear_word : (word j : ℕ) → word < 2 ^ 64 → j < 64 → bit_at word j ≡ 1
    → (word + amount false j) % 2 ^ 64 ≡ bit_xor word (2 ^ j)
clear_word word j small below is =
    let sum : bit_xor word (2 ^ j) + 2 ^ j ≡ word = sym (added (bit_xor word (2 ^ j)) j (without_bit word j is)) ∙ put_back word j is in
    let within = xor_lt 64 word (2 ^ j) small (pow_within j below) in
    omega (arith, sum, within, pow_within j below)

-- ---- either

has-one : (word j : ℕ) → has_bit word j ≡ true → bit_at word j ≡ 1
has-one word j is = eqb-true (bit_at word j) 1 is

has-zero : (word j : ℕ) → has_bit word j ≡ false → bit_at word j ≡ 0
has-zero word j is = let other = eqb-false (bit_at word j) 1 is in omega (arith, bit_at-lt word j, other)

has_bit-same : (word new i : ℕ) → bit_at new i ≡ bit_at word i → has_bit new i ≡ has_bit word i
has_bit-same word new i same = ap (λ b. b == 1) same

pub has_bit-added : (word j : ℕ) (set : Bool) → word < 2 ^ 64 → j < 64 → has_bit word j ≡ not set
    → (has_bit ((word + amount set j) % 2 ^ 64) j ≡ set)
    × ((i : ℕ) → i ≢ j → has_bit ((word + amount set j) % 2 ^ 64) i ≡ has_bit word i)
has_bit-added word j true small below wrong =
    let new = set_word word j small below (has-zero word j wrong) in (
      subst (λ w. has_bit w j ≡ true) (sym new) (eq-eqb (bit_at (bit_or word (2 ^ j)) j) 1 (bit_at-added_same word j)),
      λ i apart.
          subst (λ w. has_bit w i ≡ has_bit word i) (sym new)
          (has_bit-same word (bit_or word (2 ^ j)) i (bit_at-added_other word j i apart)),
    )
has_bit-added word j false small below wrong =
    let is = has-one word j wrong in
    let new = clear_word word j small below is in
    let none = without_bit word j is in (
      subst (λ w. has_bit w j ≡ false) (sym new) (ne_eqb (bit_at (bit_xor word (2 ^ j)) j) 1 (λ one. omega (arith, none, one))),
      λ i apart.
          subst (λ w. has_bit w i ≡ has_bit word i) (sym new)
          (has_bit-same word (bit_xor word (2 ^ j)) i (bit_at-without_other word j i apart)),
    )
