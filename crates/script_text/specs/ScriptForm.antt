-- What a text means as a script, or its first bad line: its number, counted from 1 with the skipped lines, and the kind.
use Rattle.std.specs.Prelude.{ℕ, ◌+◌, if◌then◌else◌, List, [], ◌∷◌, ◌++◌, Option, Result, Ok, Err}
use Rattle.std.specs.Result.{result_err}
use Rattle.text_lines.specs.Lines.{has_bad_byte, lines_of}
use Rattle.text_lines.specs.Words.{is_skipped, words_of}
use Rattle.script_text.specs.LineForm.{line_of}
use Rattle.script_text.specs.ShapeForm.{shape_line}
use Rattle.script_text.specs.declared.faults.BadKind.{BadKind}
use Rattle.script_text.specs.declared.faults.BadKind.TheVariants as kind
use Rattle.script_text.specs.declared.scripts.Line.{Line}
use Rattle.script_text.specs.declared.scripts.Shape.{Shape}

-- a script: its shape, and the lines after the shape line
pub record Plan : Type 0 where
  pub shape : Shape
  pub lines : List Line

-- the number of a line, and what is wrong with it
pub record Fault : Type 0 where
  pub number : ℕ
  pub kind : BadKind

abbrev pub fault : {T : Type 0} → ℕ → BadKind → Result T Fault
fault number kind = Err (record { number = number; kind = kind })

-- the lines so far and those of the rest of the text, whose first line has this number
abbrev pub lines_after : List Line → ℕ → List (List ℕ) → Result (List Line) Fault
lines_after past number [] = Ok past
lines_after past number (text ∷ texts) =
    if has_bad_byte text then fault number kind.Byte
    else (if is_skipped (words_of text) then lines_after past (number + 1) texts
    else (elim (line_of (words_of text)) [ Ok line ↦ lines_after (past ++ line ∷ []) (number + 1) texts | Err kind ↦ fault number kind ]))

abbrev pub shaped : Shape → Result (List Line) Fault → Result Plan Fault
shaped shape (Ok lines) = Ok (record { shape = shape; lines = lines })
shaped shape (Err fault) = Err fault

-- the script of a text from this line on, where all before are skipped
abbrev pub script_after : ℕ → List (List ℕ) → Result Plan Fault
script_after number [] = fault number kind.NoShape
script_after number (text ∷ texts) =
    if has_bad_byte text then fault number kind.Byte
    else (if is_skipped (words_of text) then script_after (number + 1) texts
    else (elim (shape_line (words_of text)) [ Ok shape ↦ shaped shape (lines_after [] (number + 1) texts) | Err kind ↦ fault number kind ]))

unfoldable pub reading_of : List ℕ → Result Plan Fault
reading_of text = script_after 1 (lines_of text)

-- the first bad line of a text, if there is one
abbrev pub fault_of : List ℕ → Option Fault
fault_of text = result_err (reading_of text)
