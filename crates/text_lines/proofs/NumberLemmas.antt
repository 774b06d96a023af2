-- The value of digits, one at a time, and which words are numbers.
use Rattle.std.proofs.Common.{◌≡◌, ℕ, ◌+◌, ◌*◌, ◌-◌, ◌^◌, ◌<◌, ◌≤◌, Bool, true, false, List, length, get_or, take, Some, None, Result, Ok, Err, refl, ap, ◌∙◌, arith, rules}
use Rattle.std.specs.Prelude.{if◌then◌else◌, nat_le, nat_lt}
use Rattle.std.specs.Char.{is_ascii_digit, digit_value}
use Rattle.std.specs.Result.{OkIff, result_ok}
use Rattle.std.specs.Str.Parse.{digits_value}
use Rattle.std.proofs.lemmas.Bool.Decides.{nat_tests}
use Rattle.std.proofs.lemmas.Int.Digits.{digits_value_more}
use Rattle.std.proofs.lemmas.List.Folds.{list_all_at}
use Rattle.std.proofs.lemmas.Str.{digit_value_digit}
use Rattle.std.proofs.lemmas.Str.Parse.{digits_value-take-le, digits_value_short, numerals_by_value}
use Rattle.text_lines.specs.Number.{are_digits, number_of}

digit_in_range : (c : ℕ) (b : Bool) → is_ascii_digit c ≡ b → b ≡ true → (48 ≤ c) × (c ≤ 57)
digit_in_range c b is set = (grind (arith, nat_tests), grind (arith, nat_tests))

digit_at : (ds : List ℕ) (i : ℕ) (b : Bool) → is_ascii_digit (get_or ds i 0) ≡ b → are_digits ds ≡ true → i < length ds → b ≡ true
digit_at ds i true is all within = refl
digit_at ds i false is all within = let none = list_all_at is_ascii_digit ds i 0 within is in cc

-- the next digit, the number that it makes, and that the number is small
pub record NextDigit (ds : List ℕ) (i : ℕ) : Type 0 where
  pub low : 48 ≤ get_or ds i 0
  pub value : digits_value 10 (take (i + 1) ds) ≡ digits_value 10 (take i ds) * 10 + (get_or ds i 0 - 48)
  pub small : digits_value 10 (take (i + 1) ds) < 10 ^ 10

pub next_digit : (ds : List ℕ) (i : ℕ) → are_digits ds ≡ true → length ds ≤ 10 → i < length ds → NextDigit ds i
next_digit ds i all few within =
    let range = digit_in_range (get_or ds i 0) _ refl (digit_at ds i _ refl all within) in
    let digit : digit_value (get_or ds i 0) + 48 ≡ get_or ds i 0 = digit_value_digit (get_or ds i 0) range in
    let more = digits_value_more 10 ds i within in
    let whole : digits_value 10 ds < 10 ^ 10 = digits_value_short (numerals_by_value (λ ds. are_digits ds ≡ true) (search rules)) ds 10 all few in
    let front = digits_value-take-le 10 ds (i + 1) (omega arith) in
    record { low = range.0; value = omega arith; small = omega arith }

not_filled : (n : ℕ) → n ≡ 0 → nat_lt 0 n ≡ false
not_filled n is = grind (arith, nat_tests)

filled : (n : ℕ) → (n ≡ 0 → ⊥) → nat_lt 0 n ≡ true
filled n some = grind (arith, nat_tests)

too_long : (n : ℕ) → 10 < n → nat_le n 10 ≡ false
too_long n long = grind (arith, nat_tests)

short : (n : ℕ) → n ≤ 10 → nat_le n 10 ≡ true
short n few = grind (arith, nat_tests)

pub number_of-empty : (word : List ℕ) → length word ≡ 0 → number_of word ≡ None
unfolding number_of
number_of-empty word none = rw (not_filled (length word) none) refl

pub number_of-long : (word : List ℕ) → 10 < length word → number_of word ≡ None
unfolding number_of
number_of-long word long = rw (filled (length word) (λ none. omega arith), too_long (length word) long) refl

pub number_of-other : (word : List ℕ) → (length word ≡ 0 → ⊥) → length word ≤ 10 → are_digits word ≡ false → number_of word ≡ None
unfolding number_of
number_of-other word some few other = rw (filled (length word) some, short (length word) few, other) refl

fits : (value : ℕ) → value < 4294967296 → nat_le value 4294967295 ≡ true
fits value small = grind (arith, nat_tests)

exceeds : (value : ℕ) → (value < 4294967296 → ⊥) → nat_le value 4294967295 ≡ false
exceeds value large = grind (arith, nat_tests)

tried : {E : Type 0} (value : ℕ) (result : Result ℕ E) → OkIff result (value < 4294967296) value → result_ok result ≡ (if nat_le value 4294967295 then Some value else None)
tried value (Ok x) is = rw (fits value is.0) (ap (λ x. Some x) is.1)
tried value (Err e) is = rw (exceeds value is) refl

pub number_of-digits : {E : Type 0} (word : List ℕ) (value : ℕ) (result : Result ℕ E) → (length word ≡ 0 → ⊥) → length word ≤ 10 → are_digits word ≡ true → value ≡ digits_value 10 word
    → OkIff result (value < 4294967296) value → result_ok result ≡ number_of word
unfolding number_of
number_of-digits word value result some few digits is tried_is =
    tried value result tried_is ∙ (rw (filled (length word) some, short (length word) few, digits, is) refl)
