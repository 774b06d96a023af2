-- The bits of numbers that are made of two.
use Rattle.std.proofs.Common.{◌≡◌, ℕ, ◌+◌, ◌%◌, ◌<◌, ◌⊎◌, inl, inr, sym, ap, ◌∙◌, arith}
use Rattle.std.specs.Prelude.{bit_and, bit_or, bit_xor, max, min}
use Rattle.std.specs.Int.{bit_at}
use Rattle.std.proofs.lemmas.Bool.{cases_eq}
use Rattle.std.proofs.lemmas.Nat.{or_disjoint}
use Rattle.std.proofs.lemmas.Nat.Bits.{bit_at-lt, bit_at-zero, bit_at_and, bit_at_or, bit_at_xor, same_from_bits}
use Rattle.machine.specs.Stock.{without}

-- the bits of a number but for those of another one
without-bits : (bits others : ℕ) → without bits others ≡ bit_xor bits (bit_and bits others)
without-bits bits others =
    let both = bit_and bits others in
    let rest = bit_xor bits both in
    let none : bit_and rest both ≡ 0 =
    same_from_bits (bit_and rest both) 0
    (λ i.
    bit_at_and rest both i
    ∙ (ap (λ b. min b (bit_at both i)) (bit_at_xor bits both i)
    ∙ (ap (λ b. min ((bit_at bits i + b) % 2) b) (bit_at_and bits others i)
    ∙ (apart (bit_at bits i) (bit_at others i) (bit_at-lt bits i) (bit_at-lt others i) ∙ sym (bit_at-zero i))))) in
    let all : bit_or rest both ≡ bits =
    same_from_bits (bit_or rest both) bits
    (λ i.
    bit_at_or rest both i
    ∙ (ap (λ b. max b (bit_at both i)) (bit_at_xor bits both i)
    ∙ (ap (λ b. max ((bit_at bits i + b) % 2) b) (bit_at_and bits others i)
    ∙ whole (bit_at bits i) (bit_at others i) (bit_at-lt bits i) (bit_at-lt others i)))) in
    let sum : rest + both ≡ bits = sym (or_disjoint rest both none) ∙ all in
    omega (arith, sum)
  where
    apart : (a b : ℕ) → a < 2 → b < 2 → min ((a + min a b) % 2) (min a b) ≡ 0
    apart a b small small' = omega arith

    whole : (a b : ℕ) → a < 2 → b < 2 → max ((a + min a b) % 2) (min a b) ≡ a
    whole a b small small' = omega arith

pub bit_at-without : (bits others j : ℕ) → bit_at (without bits others) j ≡ 1 → bit_at bits j ≡ 1
bit_at-without bits others j is =
    let here : (bit_at bits j + min (bit_at bits j) (bit_at others j)) % 2 ≡ 1 =
    ap (λ b. (bit_at bits j + b) % 2) (sym (bit_at_and bits others j))
    ∙ (sym (bit_at_xor bits (bit_and bits others) j) ∙ (ap (λ n. bit_at n j) (sym (without-bits bits others)) ∙ is)) in
    one (bit_at bits j) (bit_at others j) (bit_at-lt bits j) here
  where
    one : (a b : ℕ) → a < 2 → (a + min a b) % 2 ≡ 1 → a ≡ 1
    one a b small odd = omega arith

pub either : (a b j : ℕ) → bit_at (bit_or a b) j ≡ 1 → (bit_at a j ≡ 1) ⊎ (bit_at b j ≡ 1)
either a b j is = by (bit_at a j) (bit_at b j) (bit_at-lt a j) (bit_at-lt b j) (sym (bit_at_or a b j) ∙ is)
  where
    by : (x y : ℕ) → x < 2 → y < 2 → max x y ≡ 1 → (x ≡ 1) ⊎ (y ≡ 1)
    by x y small small' is_one =
        elim (cases_eq x 1) [ inl one ↦ inl one | inr other ↦ inr (omega arith) ]

pub both_set : (a b j : ℕ) → bit_at (bit_and a b) j ≡ 1 → bit_at a j ≡ 1
both_set a b j is = by (bit_at a j) (bit_at b j) (bit_at-lt a j) (sym (bit_at_and a b j) ∙ is)
  where
    by : (x y : ℕ) → x < 2 → min x y ≡ 1 → x ≡ 1
    by x y small is_one = omega arith

pub no_bit : {A : Type 0} (j : ℕ) → bit_at 0 j ≡ 1 → A
no_bit j is = absurd (omega (arith, bit_at-zero j, is))

-- a bit stays that the other number does not have
pub bit_at-without_kept : (bits others j : ℕ) → bit_at bits j ≡ 1 → bit_at others j ≡ 0 → bit_at (without bits others) j ≡ 1
bit_at-without_kept bits others j is none =
    ap (λ n. bit_at n j) (without-bits bits others)
    ∙ (bit_at_xor bits (bit_and bits others) j
    ∙ (ap (λ b. (bit_at bits j + b) % 2) (bit_at_and bits others j)
    ∙ one (bit_at bits j) (bit_at others j) is none))
  where
    one : (a b : ℕ) → a ≡ 1 → b ≡ 0 → (a + min a b) % 2 ≡ 1
    one a b is_one is_zero = omega arith

-- a bit that stays is not one of the other number
pub bit_at-without_other : (bits others j : ℕ) → bit_at (without bits others) j ≡ 1 → bit_at others j ≡ 0
bit_at-without_other bits others j is =
    let here : (bit_at bits j + min (bit_at bits j) (bit_at others j)) % 2 ≡ 1 =
    ap (λ b. (bit_at bits j + b) % 2) (sym (bit_at_and bits others j))
    ∙ (sym (bit_at_xor bits (bit_and bits others) j) ∙ (ap (λ n. bit_at n j) (sym (without-bits bits others)) ∙ is)) in
    none (bit_at bits j) (bit_at others j) (bit_at-lt bits j) (bit_at-lt others j) here
  where
    none : (a b : ℕ) → a < 2 → b < 2 → (a + min a b) % 2 ≡ 1 → b ≡ 0
    none a b small small' odd = omega arith

-- a bit of one of two numbers is one of both together
pub bit_at-or_left : (a b j : ℕ) → bit_at a j ≡ 1 → bit_at (bit_or a b) j ≡ 1
bit_at-or_left a b j is = bit_at_or a b j ∙ most (bit_at a j) (bit_at b j) (bit_at-lt b j) is
  where
    most : (x y : ℕ) → y < 2 → x ≡ 1 → max x y ≡ 1
    most x y small one = omega arith
