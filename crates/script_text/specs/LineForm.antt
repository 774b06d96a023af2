-- What the words of a line of a script mean: the line, or the first kind of fault in the order Word, Count, Number, Hex, Shape.
use Rattle.std.specs.Prelude.{ℕ, true, false, ◌==◌, if◌then◌else◌, List, [], ◌∷◌, codes, Option, Some, None, Result, Ok, Err, bytes_eq}
use Rattle.std.specs.Option.{option_map_or}
use Rattle.text_lines.specs.Number.{number_of}
use Rattle.script_text.specs.Keyword.{keyword_of}
use Rattle.script_text.specs.ShapeForm.{shape_again}
use Rattle.script_text.specs.WordValue.{bytes_of, word_of}
use Rattle.script_text.specs.declared.faults.BadKind.{BadKind}
use Rattle.script_text.specs.declared.faults.BadKind.TheVariants as kind
use Rattle.script_text.specs.declared.keywords.Keyword.{Keyword}
use Rattle.script_text.specs.declared.keywords.Keyword.TheVariants as keyword
use Rattle.script_text.specs.declared.scripts.CallText.TheVariants as text
use Rattle.script_text.specs.declared.scripts.Line.{Line}
use Rattle.script_text.specs.declared.scripts.Line.TheVariants as line

-- a line of its first word alone
abbrev pub plain : Line → List (List ℕ) → Result Line BadKind
plain line [] = Ok line
plain line (word ∷ words) = Err kind.Count

abbrev pub number_due : Option ℕ → Result ℕ BadKind
number_due (Some number) = Ok number
number_due None = Err kind.Number

-- the number that is the one word
abbrev pub sole_number : List (List ℕ) → Result ℕ BadKind
sole_number (word ∷ []) = number_due (number_of word)
sole_number words = Err kind.Count

abbrev pub numbered_line : (ℕ → Line) → Result ℕ BadKind → Result Line BadKind
numbered_line line (Ok number) = Ok (line number)
numbered_line line (Err kind) = Err kind

-- a line with one number
abbrev pub numbered : (ℕ → Line) → List (List ℕ) → Result Line BadKind
numbered line words = numbered_line line (sole_number words)

-- how many verbs: at least 1
abbrev pub count_due : Option ℕ → Result ℕ BadKind
count_due None = Err kind.Number
count_due (Some count) = if count == 0 then Err kind.Number else Ok count

-- `work n`
abbrev pub work_line : List (List ℕ) → Result Line BadKind
work_line (count ∷ []) = numbered_line line.Work (count_due (number_of count))
work_line words = Err kind.Count

abbrev pub step_of : Option ℕ → Result ℕ BadKind → Result Line BadKind
step_of None count = Err kind.Number
step_of (Some client) count = numbered_line (line.Step client) count

-- `step c n`
abbrev pub step_line : List (List ℕ) → Result Line BadKind
step_line (client ∷ count ∷ []) = step_of (number_of client) (count_due (number_of count))
step_line words = Err kind.Count

abbrev pub fill_of : Option ℕ → Option ℕ → Result Line BadKind
fill_of None word = Err kind.Number
fill_of (Some node) None = Err kind.Hex
fill_of (Some node) (Some word) = Ok (line.Fill node word)

-- `fill i W`
abbrev pub fill_line : List (List ℕ) → Result Line BadKind
fill_line (node ∷ word ∷ []) = fill_of (number_of node) (word_of word)
fill_line words = Err kind.Count

-- a number and bytes
abbrev pub keyed : (ℕ → List ℕ → Line) → Option ℕ → Option (List ℕ) → Result Line BadKind
keyed line None key = Err kind.Number
keyed line (Some client) None = Err kind.Hex
keyed line (Some client) (Some key) = Ok (line client key)

-- a number and bytes twice
abbrev pub valued : (ℕ → List ℕ → List ℕ → Line) → Option ℕ → Option (List ℕ) → Option (List ℕ) → Result Line BadKind
valued line None key value = Err kind.Number
valued line (Some client) None value = Err kind.Hex
valued line (Some client) (Some key) None = Err kind.Hex
valued line (Some client) (Some key) (Some value) = Ok (line client key value)

-- `put c bytes bytes`
abbrev pub put_line : List (List ℕ) → Result Line BadKind
put_line (client ∷ key ∷ value ∷ []) = valued line.Put (number_of client) (bytes_of key) (bytes_of value)
put_line words = Err kind.Count

-- `get c bytes`
abbrev pub get_line : List (List ℕ) → Result Line BadKind
get_line (client ∷ key ∷ []) = keyed line.Get (number_of client) (bytes_of key)
get_line words = Err kind.Count

-- `delete c bytes`
abbrev pub delete_line : List (List ℕ) → Result Line BadKind
delete_line (client ∷ key ∷ []) = keyed line.Delete (number_of client) (bytes_of key)
delete_line words = Err kind.Count

-- `call c put bytes bytes`, from the first bytes on
abbrev pub call_put : List ℕ → List (List ℕ) → Result Line BadKind
call_put client (key ∷ value ∷ []) = valued (λ client key value. line.Call client (text.Put key value)) (number_of client) (bytes_of key) (bytes_of value)
call_put client words = Err kind.Count

-- `call c get bytes`, from the bytes on
abbrev pub call_get : List ℕ → List (List ℕ) → Result Line BadKind
call_get client (key ∷ []) = keyed (λ client key. line.Call client (text.Get key)) (number_of client) (bytes_of key)
call_get client words = Err kind.Count

-- `call c delete bytes`, from the bytes on
abbrev pub call_delete : List ℕ → List (List ℕ) → Result Line BadKind
call_delete client (key ∷ []) = keyed (λ client key. line.Call client (text.Delete key)) (number_of client) (bytes_of key)
call_delete client words = Err kind.Count

-- `call c`, and which call
abbrev pub call_line : List (List ℕ) → Result Line BadKind
call_line (client ∷ name ∷ words) =
    if bytes_eq name (codes "put") then call_put client words
    else (if bytes_eq name (codes "get") then call_get client words
    else (if bytes_eq name (codes "delete") then call_delete client words
    else Err kind.Word))
call_line words = Err kind.Count

-- `task`, and which task
abbrev pub task_line : List (List ℕ) → Result Line BadKind
task_line (name ∷ words) =
    if bytes_eq name (codes "settle") then plain line.TaskSettle words
    else (if bytes_eq name (codes "recover") then numbered line.TaskRecover words
    else (if bytes_eq name (codes "join") then numbered line.TaskJoin words
    else Err kind.Word))
task_line [] = Err kind.Count

-- `verbs on`, `verbs off`
abbrev pub verbs_line : List (List ℕ) → Result Line BadKind
verbs_line (name ∷ words) =
    if bytes_eq name (codes "on") then plain (line.Verbs true) words
    else (if bytes_eq name (codes "off") then plain (line.Verbs false) words
    else Err kind.Word)
verbs_line [] = Err kind.Count

-- a line by its first word, and the words after it
abbrev pub line_after : Keyword → List (List ℕ) → Result Line BadKind
line_after keyword.Shape words = shape_again words
line_after keyword.Register words = plain line.Register words
line_after keyword.Put words = put_line words
line_after keyword.Get words = get_line words
line_after keyword.Delete words = delete_line words
line_after keyword.Call words = call_line words
line_after keyword.Step words = step_line words
line_after keyword.Go words = numbered line.Go words
line_after keyword.Late words = numbered line.Late words
line_after keyword.Stop words = numbered line.Stop words
line_after keyword.Lose words = numbered line.Lose words
line_after keyword.Fill words = fill_line words
line_after keyword.Settle words = plain line.Settle words
line_after keyword.Recover words = numbered line.Recover words
line_after keyword.Join words = numbered line.Join words
line_after keyword.Task words = task_line words
line_after keyword.Work words = work_line words
line_after keyword.Verbs words = verbs_line words
line_after keyword.Dump words = plain line.Dump words
line_after keyword.Count words = plain line.Count words
line_after keyword.History words = plain line.History words

-- a line that is not skipped, so that it has a word
unfoldable pub line_of : List (List ℕ) → Result Line BadKind
line_of [] = Err kind.Word
line_of (name ∷ words) = option_map_or (λ keyword. line_after keyword words) (keyword_of name) (Err kind.Word)
