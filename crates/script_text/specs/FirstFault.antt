-- Which line is the first bad one, and why.
use Rattle.std.specs.Prelude.{◌≡◌, ℕ, ◌+◌, true, false, ◌⊎◌, List, [], ◌∷◌, ◌++◌, length, Result, Err}
use Rattle.std.specs.List.{list_any}
use Rattle.text_lines.specs.Lines.{has_bad_byte}
use Rattle.text_lines.specs.Words.{is_skipped, words_of}
use Rattle.script_text.specs.LineForm.{line_of}
use Rattle.script_text.specs.Meaning.{MeanLines, StandFor, kept_words, shape_form}
use Rattle.script_text.specs.ScriptForm.{Fault}
use Rattle.script_text.specs.ShapeForm.{IsWithin, shape_line}
use Rattle.script_text.specs.declared.faults.BadKind.{BadKind}
use Rattle.script_text.specs.declared.faults.BadKind.TheVariants as bad
use Rattle.script_text.specs.declared.scripts.Line.{Line}
use Rattle.script_text.specs.declared.scripts.Shape.{Shape}

-- lines that are skipped, each without a bad byte
pub record AreSkipped (texts : List (List ℕ)) : Type 0 where
  pub clean : list_any has_bad_byte texts ≡ false
  pub kept : kept_words texts ≡ []

-- lines that mean a shape and these lines
pub record AreScript (texts : List (List ℕ)) (shape : Shape) (lines : List Line) : Type 0 where
  pub clean : list_any has_bad_byte texts ≡ false
  pub first : List (List ℕ)
  pub others : List (List (List ℕ))
  pub kept : kept_words texts ≡ first ∷ others
  pub stands : StandFor first (shape_form shape)
  pub within : IsWithin shape
  pub means : MeanLines others lines

-- a line at fault: it has a bad byte, or it is not skipped and its words are read as this kind
abbrev pub IsAtFault : {T : Type 0} → (List (List ℕ) → Result T BadKind) → List ℕ → BadKind → Type 0
IsAtFault read text kind =
    ((has_bad_byte text ≡ true) × (kind ≡ bad.Byte))
    ⊎ ((has_bad_byte text ≡ false) × (is_skipped (words_of text) ≡ false) × (read (words_of text) ≡ Err kind))

-- a line at fault where a shape line is due, or behind a shape line and lines that mean something
abbrev pub IsFaultBehind : List (List ℕ) → List ℕ → BadKind → Type 0
IsFaultBehind before text kind =
    (AreSkipped before × IsAtFault shape_line text kind)
    ⊎ ((shape : Shape) × (lines : List Line) × AreScript before shape lines × IsAtFault line_of text kind)

-- the first bad line stands behind lines that are good, and is at fault
pub record IsBadLine (texts : List (List ℕ)) (fault : Fault) : Type 0 where
  pub before : List (List ℕ)
  pub text : List ℕ
  pub after : List (List ℕ)
  pub are : texts ≡ before ++ text ∷ after
  pub number : fault.number ≡ length before + 1
  pub at_fault : IsFaultBehind before text fault.kind

-- or there is no shape line, and the fault is one line behind the last
pub record LacksShape (texts : List (List ℕ)) (fault : Fault) : Type 0 where
  pub skipped : AreSkipped texts
  pub number : fault.number ≡ length texts + 1
  pub kind : fault.kind ≡ bad.NoShape

abbrev pub IsFirstFault : List (List ℕ) → Fault → Type 0
IsFirstFault texts fault = IsBadLine texts fault ⊎ LacksShape texts fault
