-- What holds of every script that is read.
use Rattle.std.specs.Prelude.{ℕ, ◌≤◌, ◌<◌, List, length}
use Rattle.std.specs.List.{All, sum_by}
use Rattle.text_lines.specs.Lines.{lines_of}
use Rattle.script_text.specs.Meaning.{IsCounted, Part, bytes, fixed, form, number, word}
use Rattle.script_text.specs.ScriptForm.{Plan}
use Rattle.script_text.specs.ShapeForm.{IsWithin}
use Rattle.script_text.specs.declared.scripts.Line.{Line}

-- how many bytes a word stands for as a key or a value
abbrev pub part_bytes : Part → ℕ
part_bytes (fixed name) = 0
part_bytes (number value) = 0
part_bytes (bytes value) = length value
part_bytes (word value) = 0

-- how many bytes the keys and the values of a line have
abbrev pub line_bytes : Line → ℕ
line_bytes line = sum_by part_bytes (form line)

-- a shape within its limits, counts of at least 1, fewer lines than the text, and no more bytes than it
pub record IsSound (text : List ℕ) (plan : Plan) : Type 0 where
  pub within : IsWithin plan.shape
  pub counted : All IsCounted plan.lines
  pub lines : length plan.lines < length (lines_of text)
  pub few : length plan.lines < length text
  pub bytes : sum_by line_bytes plan.lines ≤ length text
