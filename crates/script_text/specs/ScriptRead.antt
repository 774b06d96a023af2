-- What reading a script answers.
use Rattle.std.specs.Prelude.{◌≡◌, ◌+◌, ◌≤◌, List, [], ℕ, Some, Result, Ok, Err, length}
use Rattle.std.specs.Borrow.{Bor}
use Rattle.text_lines.specs.Lines.{lines_of}
use Rattle.script_text.specs.Meaning.{Means}
use Rattle.script_text.specs.ScriptForm.{Fault, Plan, fault, fault_of, lines_after, reading_of, shaped}
use Rattle.script_text.specs.declared.faults.ScriptFault.{ScriptFault}
use Rattle.script_text.specs.declared.faults.ScriptFault.TheVariants.{BadLine, NoMemory}
use Rattle.script_text.specs.declared.scripts.Script.{Script}
use Rattle.script_text.specs.declared.scripts.Shape.{Shape}

abbrev pub plan_of : Script → Plan
plan_of script = record { shape = script.shape; lines = script.lines.items }

-- a value that stands for what was meant, or the bad line; want of memory says nothing
abbrev pub Gives : {V T : Type 0} → (V → T) → Result V ScriptFault → Result T Fault → Type 0
Gives stands (Ok value) meant = meant ≡ Ok (stands value)
Gives stands (Err (BadLine number kind)) meant = meant ≡ fault number kind
Gives stands (Err NoMemory) meant = Unit {0}

-- the shape of a text, the number of the line after the shape line, and the text from there on
abbrev pub IsOpened : List ℕ → Result (Shape × ℕ × Bor (List ℕ)) ScriptFault → Type 0
IsOpened text (Ok start) =
    (reading_of text ≡ shaped start.0 (lines_after [] start.1 (lines_of start.2.now))) × (start.1 + length start.2.now ≤ length text + 1)
IsOpened text (Err (BadLine number kind)) = reading_of text ≡ fault number kind
IsOpened text (Err NoMemory) = Unit {0}

-- the script that the text means, or its first bad line; want of memory says nothing
abbrev pub IsParsed : Result Script ScriptFault → List ℕ → Type 0
IsParsed (Ok script) text = Means text (plan_of script)
IsParsed (Err (BadLine number kind)) text = fault_of text ≡ Some (record { number = number; kind = kind })
IsParsed (Err NoMemory) text = Unit {0}
