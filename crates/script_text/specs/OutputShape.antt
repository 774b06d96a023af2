-- The lines of an output: each history is whole, and the only `end` comes right after the last one.
use Rattle.std.specs.Prelude.{◌≡◌, ℕ, zero, suc, Bool, true, false, IsTrue, List, [], ◌∷◌}
use Rattle.script_text.specs.OutputPart.{HasInRange}
use Rattle.script_text.specs.declared.out_lines.OutLine.{OutLine}
use Rattle.script_text.specs.declared.out_lines.OutLine.TheVariants as line

-- the lines go on where so many entries are due, and a history has just ended or not
abbrev pub IsOutputFrom : ℕ → Bool → List OutLine → Type 0
IsOutputFrom due over [] = ⊥
IsOutputFrom (suc due) over (line.Entry client number call reply unreturned ∷ lines) = IsOutputFrom due true lines
IsOutputFrom (suc due) over (out ∷ lines) = ⊥
IsOutputFrom zero over (line.Entry client number call reply unreturned ∷ lines) = ⊥
IsOutputFrom zero over (line.History count ∷ lines) = IsOutputFrom count true lines
IsOutputFrom zero over (line.End ∷ lines) = IsTrue over × (lines ≡ [])
IsOutputFrom zero over (out ∷ lines) = IsOutputFrom zero false lines

-- the lines are those of an output
abbrev pub IsOutput : List OutLine → Type 0
IsOutput lines = IsOutputFrom 0 false lines

-- the numbers, words and bytes of each line are within their types
abbrev pub AreInRange : List OutLine → Type 0
AreInRange [] = Unit {0}
AreInRange (out ∷ lines) = HasInRange out × AreInRange lines
