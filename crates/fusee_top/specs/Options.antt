-- The options of a command, and the values that words give them.
use Rattle.std.specs.Prelude.{◌≡◌, ℕ, ◌==◌, Bool, true, false, nat_lt, nat_le, if◌then◌else◌, List, [], ◌∷◌, ◌++◌, length, map, codes, Option, Some, None, Result, Ok, Err, bytes_eq}
use Rattle.std.specs.Global.{Vec}
use Rattle.std.specs.List.{list_any}
use Rattle.std.specs.Option.{option_map_or}
use Rattle.std.specs.Str.Parse.{digits_value}
use Rattle.clap.specs.Faults.{fault_of}
use Rattle.clap.specs.Matches.{found_of}
use Rattle.clap.specs.Simple.{App, matches_of, new_rule, new_shape}
use Rattle.clap.specs.Walk.{Row, Rule, first_of, rows_of}
use Rattle.clap.specs.declared.builder.action.ArgAction.TheVariants.{Set}
use Rattle.clap.specs.declared.parser.matches.ArgMatches.{ArgMatches}
use Rattle.text_lines.specs.Number.{are_digits}
use Rattle.fusee_top.specs.declared.options.Misread.{Misread}
use Rattle.fusee_top.specs.declared.options.Misread.TheVariants.{Form, NoMemory}

-- an option that has to be there, and takes one value
abbrev pub option_rule : List ℕ → Rule
option_rule name = record (new_rule name) { long = Some name; action = Some Set; required = true }

-- a command that takes the options of these names, and nothing else
abbrev pub options_app : List (List ℕ) → App
options_app names = record {
  top = record (new_shape (codes "options")) { rules = map option_rule names; no_binary_name = true; disable_help_flag = true };
  subs = [];
}

abbrev pub below_2_64 : ℕ → Option ℕ
below_2_64 value = if nat_le value 18446744073709551615 then Some value else None

-- the number that 1 to 20 digits write, below 2^64
abbrev pub value_of : List ℕ → Option ℕ
value_of digits =
    if length digits == 0 then None
    else (if nat_lt 20 (length digits) then None
    else (if are_digits digits then below_2_64 (digits_value 10 digits) else None))

-- the number that a text writes, where there is a text
abbrev pub value_in : Option (List ℕ) → Option ℕ
value_in (Some text) = value_of text
value_in None = None

-- the values so far, and those of the options of these names, where each is a number
abbrev pub values_after : List ℕ → List Row → List (List ℕ) → Option (List ℕ)
values_after past rows [] = Some past
values_after past rows (name ∷ names) = option_map_or (λ value. values_after (past ++ value ∷ []) rows names) (value_in (first_of name rows)) None

abbrev pub is_dashes : List ℕ → Bool
is_dashes word = bytes_eq word (codes "--")

-- whether a word is `--`
abbrev pub has_dashes : List (List ℕ) → Bool
has_dashes words = list_any is_dashes words

-- whether words give the options of these names and nothing else
abbrev pub are_options : List (List ℕ) → List (List ℕ) → Bool
are_options names words = length (fault_of (options_app names) words) == 0

-- the values that the words give the options of these names
abbrev pub option_values : List (List ℕ) → List (List ℕ) → Option (List ℕ)
option_values names words =
    if has_dashes words then None
    else (if are_options names words then values_after [] (matches_of (options_app names) words) names else None)

-- the values, or that the words have another form
abbrev pub IsRead : Result (Vec ℕ) Misread → Option (List ℕ) → Type 0
IsRead (Ok values) read = read ≡ Some values.items
IsRead (Err Form) read = read ≡ None
IsRead (Err NoMemory) read = Unit {0}

-- what the words were taken as
abbrev pub IsMatched : Result ArgMatches Misread → List (List ℕ) → List (List ℕ) → Type 0
IsMatched (Ok matches) names words = (are_options names words ≡ true) × (rows_of (found_of matches) ≡ matches_of (options_app names) words)
IsMatched (Err Form) names words = are_options names words ≡ false
IsMatched (Err NoMemory) names words = Unit {0}

-- the values that were gathered in a list
abbrev pub Collects : {T : Type 0} → List ℕ → Result T Misread → Option (List ℕ) → Type 0
Collects values (Ok value) read = read ≡ Some values
Collects values (Err Form) read = read ≡ None
Collects values (Err NoMemory) read = Unit {0}
