-- Options: the number of a value, and the command that takes them.
use Rattle.std.proofs.Common.{◌≡◌, ℕ, zero, suc, ◌+◌, ◌*◌, ◌-◌, ◌^◌, ◌<◌, ◌≤◌, ◌==◌, inl, inr, Bool, true, false, ◌||◌, List, [], ◌∷◌, ◌++◌, length, get_or, take, map, Ok, Err, Some, None, refl, sym, ap, ap₂, ◌∙◌, arith, rules}
use Rattle.std.specs.Borrow.{Bor}
use Rattle.std.specs.Prelude.{Option, Result, nat_le, nat_lt, option_map, codes}
use Rattle.std.proofs.lemmas.Bool.{false≢true}
use Rattle.std.proofs.lemmas.List.{take_more}
use Rattle.std.specs.Char.{is_ascii_digit, digit_value}
use Rattle.std.specs.List.{list_all, list_any}
use Rattle.std.specs.Result.{OkIff, result_ok}
use Rattle.std.specs.Str.Parse.{digits_value}
use Rattle.std.proofs.lemmas.Bool.Decides.{nat_tests}
use Rattle.std.proofs.lemmas.Int.Digits.{digits_value_more}
use Rattle.std.proofs.lemmas.List.Folds.{list_all_at}
use Rattle.std.proofs.lemmas.Str.{digit_value_digit}
use Rattle.std.proofs.lemmas.Str.Parse.{digits_value-take-le, digits_value_short, numerals_by_value}
use Rattle.clap.specs.Kinds.{HasKind, IsAmong, Kinds}
use Rattle.clap.proofs.WalkLemmas.{first_value-rows}
use Rattle.clap.specs.Matches.{first_value}
use Rattle.clap.specs.Simple.{App, filled_from, is_simple, new_shape, with_rule}
use Rattle.clap.specs.declared.parser.matches.Found.{Found}
use Rattle.clap.specs.Faults.{fault_of, is_simple_and_free}
use Rattle.clap.specs.Values.{kind_of}
use Rattle.clap.specs.Walk.{Rule, first_of, is_early_multiple, rows_of}
use Rattle.clap.specs.declared.error.Error.{Error}
use Rattle.clap.specs.declared.error.kind.ErrorKind.{ErrorKind}
use Rattle.clap.specs.declared.error.kind.ErrorKind.TheVariants.{OutOfMemory}
use Rattle.text_lines.specs.Number.{are_digits}
use Rattle.fusee_top.specs.Options.{are_options, below_2_64, option_rule, options_app, value_in, value_of}

digit_in_range : (c : ℕ) (b : Bool) → is_ascii_digit c ≡ b → b ≡ true → (48 ≤ c) × (c ≤ 57)
digit_in_range c b is set = (grind (arith, nat_tests), grind (arith, nat_tests))

digit_at : (ds : List ℕ) (i : ℕ) (b : Bool) → is_ascii_digit (get_or ds i 0) ≡ b → are_digits ds ≡ true → i < length ds → b ≡ true
digit_at ds i true is all within = refl
digit_at ds i false is all within = let none = list_all_at is_ascii_digit ds i 0 within is in cc

-- the next digit, the number that it makes, and that the number is small
pub record NextDigit (ds : List ℕ) (i : ℕ) : Type 0 where
  pub low : 48 ≤ get_or ds i 0
  pub value : digits_value 10 (take (i + 1) ds) ≡ digits_value 10 (take i ds) * 10 + (get_or ds i 0 - 48)
  pub small : digits_value 10 (take (i + 1) ds) < 10 ^ 20

pub next_digit : (ds : List ℕ) (i : ℕ) → are_digits ds ≡ true → length ds ≤ 20 → i < length ds → NextDigit ds i
next_digit ds i all few within =
    let range = digit_in_range (get_or ds i 0) _ refl (digit_at ds i _ refl all within) in
    let digit : digit_value (get_or ds i 0) + 48 ≡ get_or ds i 0 = digit_value_digit (get_or ds i 0) range in
    let more = digits_value_more 10 ds i within in
    let whole : digits_value 10 ds < 10 ^ 20 = digits_value_short (numerals_by_value (λ ds. are_digits ds ≡ true) (search rules)) ds 20 all few in
    let front = digits_value-take-le 10 ds (i + 1) (omega arith) in
    record { low = range.0; value = omega arith; small = omega arith }

fits : (value : ℕ) → value < 18446744073709551616 → nat_le value 18446744073709551615 ≡ true
fits value small = grind (arith, nat_tests)

exceeds : (value : ℕ) → (value < 18446744073709551616 → ⊥) → nat_le value 18446744073709551615 ≡ false
exceeds value large = grind (arith, nat_tests)

pub below-tried : {E : Type 0} (value : ℕ) (result : Result ℕ E) → OkIff result (value < 18446744073709551616) value → result_ok result ≡ below_2_64 value
below-tried value (Ok x) is = rw (fits value is.0) (ap (λ x. Some x) is.1)
below-tried value (Err e) is = rw (exceeds value is) refl

not_empty : (n : ℕ) → (n ≡ 0 → ⊥) → (n == 0) ≡ false
not_empty n some = grind (arith, nat_tests)

not_long : (n : ℕ) → n ≤ 20 → nat_lt 20 n ≡ false
not_long n few = grind (arith, nat_tests)

pub value_of-digits : {E : Type 0} (digits : List ℕ) (value : ℕ) (result : Result ℕ E) → (length digits ≡ 0 → ⊥) → length digits ≤ 20 → are_digits digits ≡ true → value ≡ digits_value 10 digits
    → OkIff result (value < 18446744073709551616) value → result_ok result ≡ value_of digits
value_of-digits digits value result some few all is tried =
    below-tried value result tried ∙ (rw (not_empty (length digits) some, not_long (length digits) few, all, is) refl)

-- ---- the value in the matches

pub value_in-some : (found : Found) (name : List ℕ) (told : Option (Bor (List ℕ))) (text : Bor (List ℕ)) → option_map (λ s. s.now) told ≡ first_value found name → told ≡ Some text
    → value_of text.now ≡ value_in (first_of name (rows_of found))
value_in-some found name told text is some = ap value_in (sym (ap (option_map (λ s. s.now)) some) ∙ is ∙ first_value-rows found name)

pub value_in-none : (found : Found) (name : List ℕ) (told : Option (Bor (List ℕ))) → option_map (λ s. s.now) told ≡ first_value found name → told ≡ None
    → None ≡ value_in (first_of name (rows_of found))
value_in-none found name told is none = ap value_in (sym (ap (option_map (λ s. s.now)) none) ∙ is ∙ first_value-rows found name)

-- ---- elements that pass a test

pub any_at : {X : Type 0} (p : X → Bool) (xs : List X) (i : ℕ) (x : X) → i < length xs → x ≡ get_or xs i x → p x ≡ true → list_any p xs ≡ true
any_at p [] i x within is test = absurd (omega arith)
any_at p (y ∷ xs) zero x within is test = rw (sym (ap p is) ∙ test) refl
any_at p (y ∷ xs) (suc i) x within is test = or_later (p y) (list_any p xs) (any_at p xs i x (omega arith) is test)
  where
    or_later : (a b : Bool) → b ≡ true → (a || b) ≡ true
    or_later true b set = refl
    or_later false b set = set

neither : (a b : Bool) → (a || b) ≡ false → (a ≡ false) × (b ≡ false)
neither true b none = absurd (false≢true (sym none))
neither false b none = (refl, none)

any_push : {X : Type 0} (p : X → Bool) (xs : List X) (x : X) → list_any p xs ≡ false → p x ≡ false → list_any p (xs ++ x ∷ []) ≡ false
any_push p [] x none test = rw test refl
any_push p (y ∷ xs) x none test =
    let parts = neither (p y) (list_any p xs) none in
    rw parts.0 (any_push p xs x parts.1 test)

pub any_more : {X : Type 0} (p : X → Bool) (xs : List X) (i : ℕ) (x : X) → i < length xs → x ≡ get_or xs i x → list_any p (take i xs) ≡ false → p x ≡ false → list_any p (take (i + 1) xs) ≡ false
any_more p xs i x within is none test =
    ap (list_any p) (take_more xs i x within ∙ ap (λ y. take i xs ++ y ∷ []) (sym is)) ∙ any_push p (take i xs) x none test

-- ---- the command

abbrev app_with : List Rule → App
app_with rules = record { top = record (new_shape (codes "options")) { rules = rules; no_binary_name = true; disable_help_flag = true }; subs = [] }

rules_push : (names : List (Bor (List ℕ))) (name : Bor (List ℕ)) → map option_rule (map (λ n. n.now) (names ++ name ∷ [])) ≡ map option_rule (map (λ n. n.now) names) ++ option_rule name.now ∷ []
rules_push [] name = refl
rules_push (x ∷ names) name = ap (λ l. option_rule x.now ∷ l) (rules_push names name)

-- the command with one option more
pub options_app-more : (names : List (Bor (List ℕ))) (i : ℕ) (d : Bor (List ℕ)) (before : App) (rule : Rule) → i < length names → before ≡ options_app (map (λ n. n.now) (take i names)) → rule ≡ option_rule (get_or names i d).now
    → with_rule before rule ≡ options_app (map (λ n. n.now) (take (i + 1) names))
options_app-more names i d before rule within known is =
    ap₂ with_rule known is
    ∙ sym (ap (λ l. options_app (map (λ n. n.now) l)) (take_more names i d within) ∙ ap app_with (rules_push (take i names) (get_or names i d)))

simple_rules : (names : List (List ℕ)) → list_all (λ a. a.is_simple) (map option_rule names) ≡ true
simple_rules [] = refl
simple_rules (name ∷ names) = simple_rules names

free_rules : (i : ℕ) (names : List (List ℕ)) → list_all (λ a. a.is_free) (filled_from i (map option_rule names)) ≡ true
free_rules i [] = refl
free_rules i (name ∷ names) = free_rules i names

filled_simple : (i : ℕ) (names : List (List ℕ)) → list_all (λ a. a.is_simple) (filled_from i (map option_rule names)) ≡ true
filled_simple i [] = refl
filled_simple i (name ∷ names) = filled_simple i names

no_early : (n i : ℕ) (names : List (List ℕ)) → list_any (is_early_multiple n) (filled_from i (map option_rule names)) ≡ false
no_early n i [] = refl
no_early n i (name ∷ names) = no_early n i names

pub is_simple-options : (names : List (List ℕ)) → is_simple (options_app names) ≡ true
is_simple-options names = rw (simple_rules names, filled_simple 1 names, no_early _ 1 names) refl

pub is_free-options : (names : List (List ℕ)) → is_simple_and_free (options_app names) ≡ true
is_free-options names = rw (simple_rules names, filled_simple 1 names, no_early _ 1 names, free_rules 1 names) refl

nothing : (n : ℕ) → n ≡ 0 → (n == 0) ≡ true
nothing n is = grind (arith, nat_tests)

something : (n : ℕ) → (n == 0) ≡ true → n ≡ 0
something n is = grind (arith, nat_tests)

pub are_options-taken : (names words : List (List ℕ)) → fault_of (options_app names) words ≡ [] → are_options names words ≡ true
are_options-taken names words none = nothing (length (fault_of (options_app names) words)) (ap length none)

positive : (n : ℕ) → 0 < n → (n == 0) ≡ false
positive n some = grind (arith, nat_tests)

one_at_least : (kind : ErrorKind) (kinds : Kinds) → IsAmong kind kinds → (length kinds == 0) ≡ false
one_at_least kind [] among = absurd among
one_at_least kind (x ∷ kinds) among = positive (length (x ∷ kinds)) (omega arith)

pub are_options-refused : (names words : List (List ℕ)) (e : Error) → HasKind (fault_of (options_app names) words) e → (kind_of e ≡ OutOfMemory → ⊥) → are_options names words ≡ false
are_options-refused names words e (inl starved) other = absurd (other starved)
are_options-refused names words e (inr among) other = one_at_least (kind_of e) (fault_of (options_app names) words) among
