-- The lines of a text by their table, and what is first wrong with a text that is none.
use Rattle.std.specs.Prelude.{◌≡◌, ℕ, ◌+◌, ◌⊎◌, Bool, true, false, ◌==◌, is_some, if◌then◌else◌, List, [], ◌∷◌, length, map, codes, Option, Some, None, bytes_eq}
use Rattle.std.specs.List.{list_all}
use Rattle.text_lines.specs.Lines.{has_bad_byte}
use Rattle.text_lines.specs.Number.{number_of}
use Rattle.text_lines.specs.Words.{is_skipped, words_of}
use Rattle.lease_core.specs.declared.lease_lines.LeaseLine.{LeaseLine}
use Rattle.lease_core.specs.declared.lease_lines.LeaseLine.TheVariants.{Ask, Grant, Take, Verb, Fence}
use Rattle.lease_core.specs.declared.reading.LeaseKind.{LeaseKind}
use Rattle.lease_core.specs.declared.reading.LeaseKind.TheVariants as kind

-- ---- the table

-- the first word of an event's line
abbrev pub name_of : LeaseLine → List ℕ
name_of (Ask client p m) = codes "ask"
name_of (Grant client ask p m) = codes "grant"
name_of (Take client ask p m) = codes "take"
name_of (Verb client p m) = codes "verb"
name_of (Fence client p m) = codes "fence"

-- the numbers behind it
abbrev pub numbers_of : LeaseLine → List ℕ
numbers_of (Ask client p m) = client ∷ p ∷ m ∷ []
numbers_of (Grant client ask p m) = client ∷ ask ∷ p ∷ m ∷ []
numbers_of (Take client ask p m) = client ∷ ask ∷ p ∷ m ∷ []
numbers_of (Verb client p m) = client ∷ p ∷ m ∷ []
numbers_of (Fence client p m) = client ∷ p ∷ m ∷ []

-- these words tell the event
pub record Tells (words : List (List ℕ)) (event : LeaseLine) : Type 0 where
  pub numbers : List (List ℕ)
  pub words_are : words ≡ name_of event ∷ numbers
  pub values : map number_of numbers ≡ map Some (numbers_of event)

-- these lines tell these events: no line has a bad byte, and each is skipped or tells the next event
abbrev pub AreLines : List (List ℕ) → List LeaseLine → Type 0
AreLines [] events = events ≡ []
AreLines (line ∷ lines) events =
    (has_bad_byte line ≡ false)
    × (((is_skipped (words_of line) ≡ true) × AreLines lines events)
    ⊎ ((is_skipped (words_of line) ≡ false) × ((event : LeaseLine) × (later : List LeaseLine) × (events ≡ event ∷ later) × Tells (words_of line) event × AreLines lines later)))

-- ---- what is wrong

-- how many numbers are due behind a first word
abbrev pub due : List ℕ → Option ℕ
due name =
    if bytes_eq name (codes "ask") then Some 3
    else (if bytes_eq name (codes "grant") then Some 4
    else (if bytes_eq name (codes "take") then Some 4
    else (if bytes_eq name (codes "verb") then Some 3
    else (if bytes_eq name (codes "fence") then Some 3
    else None))))

abbrev pub is_number : List ℕ → Bool
is_number word = is_some (number_of word)

abbrev pub fault_of_numbers : Option ℕ → List (List ℕ) → Option LeaseKind
fault_of_numbers None words = Some kind.Word
fault_of_numbers (Some count) words =
    if length words == count then (if list_all is_number words then None else Some kind.Number) else Some kind.Count

abbrev pub fault_of_words : List (List ℕ) → Option LeaseKind
fault_of_words [] = Some kind.Word
fault_of_words (name ∷ words) = fault_of_numbers (due name) words

-- what is first wrong with a line
abbrev pub fault_of : List ℕ → Option LeaseKind
fault_of line = if has_bad_byte line then Some kind.Byte else (if is_skipped (words_of line) then None else fault_of_words (words_of line))

abbrev pub fault_or : ℕ → Option LeaseKind → Option (ℕ × LeaseKind) → Option (ℕ × LeaseKind)
fault_or number (Some kind) later = Some (number, kind)
fault_or number None later = later

-- the first bad line, of lines that are counted from this number, and what is first wrong with it
abbrev pub first_fault : ℕ → List (List ℕ) → Option (ℕ × LeaseKind)
first_fault number [] = None
first_fault number (line ∷ lines) = fault_or number (fault_of line) (first_fault (number + 1) lines)
