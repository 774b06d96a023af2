use Rattle.std.proofs.Common.{◌≡◌, ℕ, zero, suc, ◌+◌, ◌<◌, ◌≤◌, Bool, true, false, Some, find, refl, ◌⊎◌, inl, inr, arith}
use Rattle.std.proofs.lemmas.Bool.{lt-leb, le-leb}
use Rattle.std.specs.List.{range_with_len}
use Rattle.object_form.specs.declared.classes.TheConstants.{CLASSES, LONGEST, OBJECT_WORDS}
use Rattle.object_form.specs.Class.{class_in, room_of, words_of, units_of, IsKeyLength}

-- an object has at least one unit and at most 32
pub units_of-bounds : (class : ℕ) → class < CLASSES → (1 ≤ units_of class) × (units_of class ≤ 32)
units_of-bounds zero below = (omega arith, omega arith)
units_of-bounds (suc zero) below = (omega arith, omega arith)
units_of-bounds (suc (suc zero)) below = (omega arith, omega arith)
units_of-bounds (suc (suc (suc zero))) below = (omega arith, omega arith)
units_of-bounds (suc (suc (suc (suc zero)))) below = (omega arith, omega arith)
units_of-bounds (suc (suc (suc (suc (suc zero))))) below = (omega arith, omega arith)
units_of-bounds (suc (suc (suc (suc (suc (suc n)))))) below = absurd (omega arith)

-- an object of lengths that are taken has at least 5 words and at most 256
pub words_of-bounds : (key_len value_len : ℕ) → IsKeyLength key_len → value_len ≤ LONGEST
    → (5 ≤ words_of key_len value_len) × (words_of key_len value_len ≤ OBJECT_WORDS)
words_of-bounds key_len value_len key value = (omega (arith, key), omega (arith, key))

-- the first number of a range that passes a test is found in it
pub find-range : (test : ℕ → Bool) (from len number : ℕ) → from ≤ number → number < from + len → test number ≡ true
    → ((smaller : ℕ) → from ≤ smaller → smaller < number → test smaller ≡ false) → find test (range_with_len from len) ≡ Some number
find-range test from zero number least below passes first = absurd (omega arith)
find-range test from (suc len) number least below passes first = elim near [
  | inl here ↦ rw (here, passes) refl
  | inr later ↦ rw (first from (omega arith) later) (find-range test (from + 1) len number (omega arith) (omega arith) passes (λ smaller above under. first smaller (omega arith) under))
]
  where
    near : (from ≡ number) ⊎ (from < number)
    near = grind arith

-- the least class with room is the class of the lengths
pub class_in-least : (key_len value_len class : ℕ) → class < CLASSES → words_of key_len value_len ≤ room_of class
    → ((smaller : ℕ) → smaller < class → room_of smaller < words_of key_len value_len) → class ≡ class_in key_len value_len
unfolding class_in
class_in-least key_len value_len class below holds least =
    rw (find-range _ 0 CLASSES class (omega arith) below (le-leb _ _ holds) (λ smaller above under. lt-leb _ _ (least smaller under))) refl
