-- How a text tells events, and what is wrong with one that does not.
use Rattle.std.specs.Prelude.{◌≡◌, ℕ, ◌+◌, if◌then◌else◌, List, [], ◌∷◌, codes, Option, Some, None, Result, Ok, Err, bytes_eq}
use Rattle.std.specs.Global.{Vec}
use Rattle.text_lines.specs.Lines.{has_bad_byte}
use Rattle.text_lines.specs.Number.{number_of}
use Rattle.text_lines.specs.Words.{is_skipped, words_of}
use Rattle.lease_core.specs.declared.lease_lines.LeaseLine.{LeaseLine}
use Rattle.lease_core.specs.declared.lease_lines.LeaseLine.TheVariants as event
use Rattle.lease_core.specs.declared.reading.LeaseKind.{LeaseKind}
use Rattle.lease_core.specs.declared.reading.LeaseKind.TheVariants.{Byte, Word, Count, Number}
use Rattle.lease_core.specs.declared.reading.LeaseFault.{LeaseFault}
use Rattle.lease_core.specs.declared.reading.LeaseFault.TheVariants as fault

-- ---- the numbers behind the first word of a line

abbrev pub three_words : List (List ℕ) → Option (List ℕ × List ℕ × List ℕ)
three_words [] = None
three_words (a ∷ []) = None
three_words (a ∷ b ∷ []) = None
three_words (a ∷ b ∷ c ∷ []) = Some (a, b, c)
three_words (a ∷ b ∷ c ∷ d ∷ words) = None

abbrev pub all_three : Option ℕ → Option ℕ → Option ℕ → Result (ℕ × ℕ × ℕ) LeaseKind
all_three None b c = Err Number
all_three (Some a) None c = Err Number
all_three (Some a) (Some b) None = Err Number
all_three (Some a) (Some b) (Some c) = Ok (a, b, c)

abbrev pub numbers_of_three : Option (List ℕ × List ℕ × List ℕ) → Result (ℕ × ℕ × ℕ) LeaseKind
numbers_of_three None = Err Count
numbers_of_three (Some words) = all_three (number_of words.0) (number_of words.1) (number_of words.2)

-- three words, each a number
abbrev pub three_numbers : List (List ℕ) → Result (ℕ × ℕ × ℕ) LeaseKind
three_numbers words = numbers_of_three (three_words words)

abbrev pub one_more : Option ℕ → Result (ℕ × ℕ × ℕ) LeaseKind → Result (ℕ × ℕ × ℕ × ℕ) LeaseKind
one_more a (Err kind) = Err kind
one_more None (Ok rest) = Err Number
one_more (Some a) (Ok rest) = Ok (a, rest.0, rest.1, rest.2)

-- four words, each a number
abbrev pub four_numbers : List (List ℕ) → Result (ℕ × ℕ × ℕ × ℕ) LeaseKind
four_numbers [] = Err Count
four_numbers (a ∷ words) = one_more (number_of a) (three_numbers words)

-- ---- the events of a text

abbrev pub of_three : (ℕ → ℕ → ℕ → LeaseLine) → Result (ℕ × ℕ × ℕ) LeaseKind → Result LeaseLine LeaseKind
of_three make (Ok n) = Ok (make n.0 n.1 n.2)
of_three make (Err kind) = Err kind

abbrev pub of_four : (ℕ → ℕ → ℕ → ℕ → LeaseLine) → Result (ℕ × ℕ × ℕ × ℕ) LeaseKind → Result LeaseLine LeaseKind
of_four make (Ok n) = Ok (make n.0 n.1 n.2 n.3)
of_four make (Err kind) = Err kind

-- the event of a line of these words
abbrev pub event_of : List (List ℕ) → Result LeaseLine LeaseKind
event_of [] = Err Word
event_of (name ∷ words) =
    if bytes_eq name (codes "ask") then of_three (λ client p m. event.Ask client p m) (three_numbers words)
    else (if bytes_eq name (codes "grant") then of_four (λ client ask p m. event.Grant client ask p m) (four_numbers words)
    else (if bytes_eq name (codes "take") then of_four (λ client ask p m. event.Take client ask p m) (four_numbers words)
    else (if bytes_eq name (codes "verb") then of_three (λ client p m. event.Verb client p m) (three_numbers words)
    else (if bytes_eq name (codes "fence") then of_three (λ client p m. event.Fence client p m) (three_numbers words)
    else Err Word))))

abbrev pub told : Result LeaseLine LeaseKind → Result (Option LeaseLine) LeaseKind
told (Ok event) = Ok (Some event)
told (Err kind) = Err kind

-- the event of a line, none where it is skipped, or what is wrong with it
abbrev pub line_event : List ℕ → Result (Option LeaseLine) LeaseKind
line_event line =
    if has_bad_byte line then Err Byte
    else (if is_skipped (words_of line) then Ok None else told (event_of (words_of line)))

abbrev pub in_front : LeaseLine → Result (List LeaseLine) (ℕ × LeaseKind) → Result (List LeaseLine) (ℕ × LeaseKind)
in_front event (Ok events) = Ok (event ∷ events)
in_front event (Err bad) = Err bad

abbrev pub with_line : ℕ → Result (Option LeaseLine) LeaseKind → Result (List LeaseLine) (ℕ × LeaseKind) → Result (List LeaseLine) (ℕ × LeaseKind)
with_line number (Err kind) rest = Err (number, kind)
with_line number (Ok None) rest = rest
with_line number (Ok (Some event)) rest = in_front event rest

-- the events of lines that are counted from this number, or the number of the first bad line and what is wrong with it
abbrev pub events_from : ℕ → List (List ℕ) → Result (List LeaseLine) (ℕ × LeaseKind)
events_from number [] = Ok []
events_from number (line ∷ lines) = with_line number (line_event line) (events_from (number + 1) lines)

-- what was answered is what was read, unless memory ran out
abbrev pub IsRead : Result (Vec LeaseLine) LeaseFault → Result (List LeaseLine) (ℕ × LeaseKind) → Type 0
IsRead (Ok events) read = read ≡ Ok events.items
IsRead (Err (fault.BadLine number kind)) read = read ≡ Err (number, kind)
IsRead (Err fault.NoMemory) read = Unit {0}
