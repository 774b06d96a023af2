-- What a text means as an output: each line by its parts, and all lines by their shape.
use Rattle.std.specs.Prelude.{◌≡◌, ℕ, false, List, [], ◌∷◌, codes}
use Rattle.text_lines.specs.Lines.{has_bad_byte, lines_of}
use Rattle.text_lines.specs.Words.{words_of}
use Rattle.script_text.specs.OutputPart.{StandFor, line_parts}
use Rattle.script_text.specs.OutputShape.{IsOutput}
use Rattle.script_text.specs.declared.out_lines.OutLine.{OutLine}
use Rattle.script_text.specs.declared.out_lines.OutLine.TheVariants as line
use Rattle.script_text.specs.declared.out_lines.RefusalText.{RefusalText}
use Rattle.script_text.specs.declared.out_lines.RefusalText.TheVariants as refusal

abbrev pub IsNamed : RefusalText → Type 0
IsNamed refusal.Other = ⊥
IsNamed why = Unit {0}

abbrev pub BeginsWith : List ℕ → List (List ℕ) → Type 0
BeginsWith name [] = ⊥
BeginsWith name (text ∷ texts) = text ≡ name

-- words that mean a line: they stand for its parts; words behind `refused` that name no refusal mean another one
abbrev pub WordsMean : List (List ℕ) → OutLine → Type 0
WordsMean words (line.Refused refusal.Other) =
    BeginsWith (codes "refused") words × ((why : RefusalText) → IsNamed why → StandFor words (line_parts (line.Refused why)) → ⊥)
WordsMean words out = StandFor words (line_parts out)

abbrev pub LineMeans : List ℕ → OutLine → Type 0
LineMeans text out = (has_bad_byte text ≡ false) × WordsMean (words_of text) out

abbrev pub LinesMean : List (List ℕ) → List OutLine → Type 0
LinesMean [] [] = Unit {0}
LinesMean [] (out ∷ outs) = ⊥
LinesMean (text ∷ texts) [] = ⊥
LinesMean (text ∷ texts) (out ∷ outs) = LineMeans text out × LinesMean texts outs

-- a text that means an output of these lines
abbrev pub MeansOutput : List ℕ → List OutLine → Type 0
MeansOutput text outs = LinesMean (lines_of text) outs × IsOutput outs
