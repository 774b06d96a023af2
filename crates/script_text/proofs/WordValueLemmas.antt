-- Digits of base 16.
use Rattle.std.proofs.Common.{◌≡◌, ℕ, ◌+◌, ◌*◌, ◌^◌, ◌%◌, ◌<◌, ◌≤◌, ◌==◌, Bool, true, false, ◌&&◌, List, [], ◌∷◌, ◌++◌, length, append_assoc, get_or, take, drop, Some, None, refl, ap, arith}
use Rattle.std.specs.Prelude.{if◌then◌else◌, bytes_eq, codes}
use Rattle.std.specs.Char.{digit_value}
use Rattle.std.specs.Str.Parse.{AllDigits, digits_value}
use Rattle.std.proofs.lemmas.Bool.{false≢true}
use Rattle.std.proofs.lemmas.Bool.Decides.{nat_tests}
use Rattle.std.proofs.lemmas.Int.Digits.{digits_value-lt, digits_value_more}
use Rattle.std.proofs.lemmas.List.Folds.{list_all_at}
use Rattle.std.proofs.lemmas.Str.Parse.{digits_value-take-le}
use Rattle.script_text.specs.WordValue.{are_hex_digits, bytes_of, hex_bytes, is_hex_digit, paired, word_of}

pub digit_small : (byte : ℕ) → is_hex_digit byte ≡ true → digit_value byte < 16
digit_small byte is = grind (arith, nat_tests)

both : (a b : Bool) → (a && b) ≡ true → (a ≡ true) × (b ≡ true)
both true b is = (refl, is)
both false b is = absurd (false≢true is)

all_digits : (ds : List ℕ) → are_hex_digits ds ≡ true → AllDigits 16 ds
all_digits [] are = tt
all_digits (d ∷ ds) are = let parts = both (is_hex_digit d) (are_hex_digits ds) are in (digit_small d parts.0, all_digits ds parts.1)

digit_there : (ds : List ℕ) (i : ℕ) (b : Bool) → is_hex_digit (get_or ds i 0) ≡ b → are_hex_digits ds ≡ true → i < length ds → b ≡ true
digit_there ds i true is are within = refl
digit_there ds i false is are within = let none = list_all_at is_hex_digit ds i 0 within is in cc

pub hex_digit_at : (ds : List ℕ) (i : ℕ) → are_hex_digits ds ≡ true → i < length ds → is_hex_digit (get_or ds i 0) ≡ true
hex_digit_at ds i are within = digit_there ds i (is_hex_digit (get_or ds i 0)) refl are within

-- the number that one more digit makes, and that it is small
pub record NextDigit (ds : List ℕ) (i : ℕ) : Type 0 where
  pub value : digits_value 16 (take (i + 1) ds) ≡ digits_value 16 (take i ds) * 16 + digit_value (get_or ds i 0)
  pub small : digits_value 16 (take (i + 1) ds) < 2 ^ 64

pub next_digit : (ds : List ℕ) (i : ℕ) → are_hex_digits ds ≡ true → length ds ≡ 16 → i < length ds → NextDigit ds i
next_digit ds i are count within =
    let whole : digits_value 16 ds < 16 ^ length ds = digits_value-lt 16 ds (all_digits ds are) in
    let whole' : digits_value 16 ds < 16 ^ 16 = rw count at whole in
    let front = digits_value-take-le 16 ds (i + 1) (omega arith) in
    record { value = digits_value_more 16 ds i within; small = omega arith }

-- two digits are a byte
pub record NextPair (ds : List ℕ) : Type 0 where
  pub high : is_hex_digit (get_or ds 0 0) ≡ true
  pub low : is_hex_digit (get_or ds 1 0) ≡ true
  pub pairs : paired ds ≡ (digit_value (get_or ds 0 0) * 16 + digit_value (get_or ds 1 0)) ∷ paired (drop 2 ds)
  pub left : are_hex_digits (drop 2 ds) ≡ true

pub next_pair : (ds : List ℕ) → are_hex_digits ds ≡ true → 2 ≤ length ds → NextPair ds
next_pair [] are long = absurd (omega arith)
next_pair (d ∷ []) are long = absurd (omega arith)
next_pair (high ∷ low ∷ ds) are long =
    let parts = both (is_hex_digit high) (are_hex_digits (low ∷ ds)) are in
    let parts' = both (is_hex_digit low) (are_hex_digits ds) parts.1 in
    record { high = parts.0; low = parts'.0; pairs = ap (λ byte. byte ∷ paired ds) (omega arith); left = parts'.1 }

pub paired-short : (ds : List ℕ) → length ds < 2 → paired ds ≡ []
paired-short [] short = refl
paired-short (d ∷ []) short = refl
paired-short (high ∷ low ∷ ds) short = absurd (omega arith)

is_number : (n m : ℕ) → n ≡ m → (n == m) ≡ true
is_number n m is = grind (arith, nat_tests)

not_number : (n m : ℕ) → (n ≡ m → ⊥) → (n == m) ≡ false
not_number n m other = grind (arith, nat_tests)

pub word_of-count : (word : List ℕ) → (length word ≡ 16 → ⊥) → word_of word ≡ None
unfolding word_of
word_of-count word other = rw (not_number (length word) 16 other) refl

pub word_of-digits : (word : List ℕ) (are : Bool) → length word ≡ 16 → are_hex_digits word ≡ are → word_of word ≡ (if are then Some (digits_value 16 word) else None)
unfolding word_of
word_of-digits word are count is = rw (is_number (length word) 16 count, is) refl

pub hex_bytes-odd : (digits : List ℕ) → (length digits % 2 ≡ 0 → ⊥) → hex_bytes digits ≡ None
unfolding hex_bytes
hex_bytes-odd digits odd = rw (not_number (length digits % 2) 0 odd) refl

pub hex_bytes-even : (digits : List ℕ) (are : Bool) → length digits % 2 ≡ 0 → are_hex_digits digits ≡ are → hex_bytes digits ≡ (if are then Some (paired digits) else None)
unfolding hex_bytes
hex_bytes-even digits are even is = rw (is_number (length digits % 2) 0 even, is) refl

pub bytes_of-hex : (word digits : List ℕ) → bytes_eq (take 2 word) (codes "x:") ≡ true → digits ≡ drop 2 word → hex_bytes digits ≡ bytes_of word
unfolding bytes_of
bytes_of-hex word digits begins is = rw (begins, is) refl

pub bytes_of-own : (word : List ℕ) → bytes_eq (take 2 word) (codes "x:") ≡ false → Some word ≡ bytes_of word
unfolding bytes_of
bytes_of-own word begins = rw begins refl

-- one turn of the loop over pairs
pub paired_step : (bytes more digits rest all : List ℕ) (high low : ℕ) → NextPair digits → rest ≡ drop 2 digits
    → high ≡ digit_value (get_or digits 0 0) → low ≡ digit_value (get_or digits 1 0) → more ≡ bytes ++ (high * 16 + low) ∷ [] → bytes ++ paired digits ≡ all
    → (more ++ paired rest ≡ all) × (are_hex_digits rest ≡ true)
paired_step bytes more digits rest all high low next is high_is low_is more_is made =
    let made' : bytes ++ ((high * 16 + low) ∷ paired (drop 2 digits)) ≡ all = rw (high_is, low_is, ← next.pairs) made in
    (rw (more_is, is, append_assoc) made', rw is next.left)
