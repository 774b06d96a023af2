-- Where `position` finds an element, and how the pieces that such elements part begin.
use Rattle.std.proofs.Common.{◌≡◌, ℕ, suc, ◌+◌, ◌<◌, ◌≤◌, Bool, true, false, not, List, [], ◌∷◌, length, Some, None, refl, arith}
use Rattle.std.specs.Prelude.{nat_lt, cond}
use Rattle.std.specs.List.{position, position_or_len, slice_split}
use Rattle.std.proofs.lemmas.Bool.{ltb-true}
use Rattle.std.proofs.lemmas.Bool.Decides.{nat_tests}

pub record IsAt (p : ℕ → Bool) (xs : List ℕ) (at : ℕ) : Type 0 where
  pub within : at < length xs
  pub is : position_or_len p xs ≡ at

found : (b : Bool) (n at : ℕ) → Some at ≡ cond b (Some n) None → (b ≡ true) × (n ≡ at)
found true n at is = (refl, cc)
found false n at is = cc

pub found_at : (p : ℕ → Bool) (xs : List ℕ) (at : ℕ) → Some at ≡ position p xs → IsAt p xs at
found_at p xs at is =
    let parts = found (nat_lt (position_or_len p xs) (length xs)) (position_or_len p xs) at is in
    let within : position_or_len p xs < length xs = ltb-true (position_or_len p xs) (length xs) parts.0 in
    record { within = omega (arith, parts.1); is = parts.1 }

missing : (b : Bool) (n : ℕ) → None ≡ cond b (Some n) None → b ≡ false
missing true n is = cc
missing false n is = refl

passed : (b : Bool) (n m : ℕ) → nat_lt (cond (not b) (1 + n) 0) (suc m) ≡ false → (b ≡ false) × (nat_lt n m ≡ false)
passed true n m is = absurd (grind (arith, nat_tests))
passed false n m is = (refl, grind (arith, nat_tests))

one_piece : (p : ℕ → Bool) (xs : List ℕ) → nat_lt (position_or_len p xs) (length xs) ≡ false → slice_split p xs ≡ xs ∷ []
one_piece p [] is = refl
one_piece p (x ∷ xs) is =
    let parts = passed (p x) (position_or_len p xs) (length xs) is in
    rw (parts.0, one_piece p xs parts.1) refl

-- where no element passes, the list is one piece
pub one_piece_of : (p : ℕ → Bool) (xs : List ℕ) → None ≡ position p xs → slice_split p xs ≡ xs ∷ []
one_piece_of p xs is = one_piece p xs (missing (nat_lt (position_or_len p xs) (length xs)) (position_or_len p xs) is)

not_below : (n m : ℕ) → nat_lt n m ≡ false → m ≤ n
not_below n m is = grind (arith, nat_tests)

pub missing_at : (p : ℕ → Bool) (xs : List ℕ) → None ≡ position p xs → length xs ≤ position_or_len p xs
missing_at p xs is = not_below (position_or_len p xs) (length xs) (missing (nat_lt (position_or_len p xs) (length xs)) (position_or_len p xs) is)
