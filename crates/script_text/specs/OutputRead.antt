-- The output that a text is: its lines, and where each kind of line may stand.
use Rattle.std.specs.Prelude.{◌≡◌, ℕ, ◌+◌, ◌-◌, ◌==◌, Bool, true, false, if◌then◌else◌, List, [], ◌∷◌, ◌++◌, Option, Some, None, Result, Ok, Err}
use Rattle.text_lines.specs.Lines.{lines_of}
use Rattle.script_text.specs.OutputForm.{line_of}
use Rattle.script_text.specs.declared.faults.BadKind.{BadKind}
use Rattle.script_text.specs.declared.faults.BadKind.TheVariants.{Block}
use Rattle.script_text.specs.declared.faults.ScriptFault.{ScriptFault}
use Rattle.script_text.specs.declared.faults.ScriptFault.TheVariants.{BadLine, NoMemory}
use Rattle.script_text.specs.declared.out_lines.OutLine.{OutLine}
use Rattle.script_text.specs.declared.out_lines.OutLine.TheVariants as line
use Rattle.script_text.specs.declared.outputs.Stage.{Stage}
use Rattle.script_text.specs.declared.outputs.Stage.TheVariants.{Between, Entries, Listed, Ended, Misplaced}

-- a bad line: its number, counted from 1, and what is wrong with it
pub record Bad : Type 0 where
  pub number : ℕ
  pub kind : BadKind

-- where so many entries are due
abbrev pub entries_due : ℕ → Stage
entries_due count = if count == 0 then Listed else Entries count

-- a line where no entry is due, and what an `end` there comes to
abbrev pub after_other : Stage → OutLine → Option Stage
after_other at_end (line.History entries) = Some (entries_due entries)
after_other at_end (line.Entry client number call reply unreturned) = None
after_other at_end line.End = Some at_end
after_other at_end out = Some Between

-- a line where so many entries are due
abbrev pub after_entry : ℕ → OutLine → Option Stage
after_entry count (line.Entry client number call reply unreturned) = Some (entries_due (count - 1))
after_entry count out = None

-- the stage after a line, if the line may stand there
abbrev pub stage_after : Stage → OutLine → Option Stage
stage_after Between out = after_other Misplaced out
stage_after (Entries count) out = after_entry count out
stage_after Listed out = after_other Ended out
stage_after Ended out = None
stage_after Misplaced out = None

-- whether a text may be over
abbrev pub is_closed : Stage → Bool
is_closed Ended = true
is_closed stage = false

-- what is read where the lines are over, and the next would have this number
abbrev pub at_text_end : ℕ → Stage → Result (List OutLine) Bad
at_text_end number stage = if is_closed stage then Ok [] else Err (record { number = number; kind = Block })

-- a line before what is read
abbrev pub led_by : OutLine → Result (List OutLine) Bad → Result (List OutLine) Bad
led_by out (Ok lines) = Ok (out ∷ lines)
led_by out (Err bad) = Err bad

-- lines before what is read
abbrev pub led_by_all : List OutLine → Result (List OutLine) Bad → Result (List OutLine) Bad
led_by_all outs (Ok lines) = Ok (outs ++ lines)
led_by_all outs (Err bad) = Err bad

-- a line that may stand where it stands, and what is read behind it
abbrev pub placed : ℕ → OutLine → Option Stage → (Stage → Result (List OutLine) Bad) → Result (List OutLine) Bad
placed number out None behind = Err (record { number = number; kind = Block })
placed number out (Some next) behind = led_by out (behind next)

-- a line that is read, and what is read behind it
abbrev pub followed : ℕ → Stage → Result OutLine BadKind → (Stage → Result (List OutLine) Bad) → Result (List OutLine) Bad
followed number stage (Err kind) behind = Err (record { number = number; kind = kind })
followed number stage (Ok out) behind = placed number out (stage_after stage out) behind

-- what is read from the line of this number on
abbrev pub read_from : ℕ → Stage → List (List ℕ) → Result (List OutLine) Bad
read_from number stage [] = at_text_end number stage
read_from number stage (text ∷ texts) = followed number stage (line_of text) (λ next. read_from (number + 1) next texts)

-- the lines of the output that a text is, or its first bad line
abbrev pub output_of : List ℕ → Result (List OutLine) Bad
output_of text = read_from 1 Between (lines_of text)

-- what reading the line of this number answers
abbrev pub IsLine : Result OutLine ScriptFault → ℕ → Result OutLine BadKind → Type 0
IsLine (Ok out) number read = read ≡ Ok out
IsLine (Err (BadLine bad kind)) number read = (bad ≡ number) × (read ≡ Err kind)
IsLine (Err NoMemory) number read = Unit {0}

-- what is answered where a text is no output
abbrev pub IsBad : ScriptFault → Result (List OutLine) Bad → Type 0
IsBad (BadLine number kind) read = read ≡ Err (record { number = number; kind = kind })
IsBad NoMemory read = Unit {0}
