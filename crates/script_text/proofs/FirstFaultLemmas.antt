-- The fault that reading a text answers is that of the first bad line.
use Rattle.std.proofs.Common.{◌≡◌, ℕ, ◌+◌, Bool, true, false, ◌⊎◌, inl, inr, List, [], ◌∷◌, ◌++◌, length, Some, Result, Ok, Err, refl, sym, ap, ◌∙◌, arith}
use Rattle.std.specs.Prelude.{if◌then◌else◌}
use Rattle.std.specs.List.{list_any}
use Rattle.std.specs.Result.{result_err}
use Rattle.text_lines.specs.Lines.{has_bad_byte, lines_of}
use Rattle.text_lines.specs.Words.{is_skipped, words_of}
use Rattle.script_text.specs.FirstFault.{AreSkipped, IsAtFault, IsFaultBehind, IsFirstFault}
use Rattle.script_text.specs.LineForm.{line_of}
use Rattle.script_text.specs.Meaning.{MeanLines, kept_words}
use Rattle.script_text.specs.ScriptForm.{Fault, Plan, fault, fault_of, lines_after, reading_of, script_after, shaped}
use Rattle.script_text.specs.ShapeForm.{shape_line}
use Rattle.script_text.specs.declared.faults.BadKind.{BadKind}
use Rattle.script_text.specs.declared.faults.BadKind.TheVariants as kind
use Rattle.script_text.specs.declared.scripts.Line.{Line}
use Rattle.script_text.specs.declared.scripts.Shape.{Shape}
use Rattle.script_text.proofs.LineMeaningLemmas.{means-line_of}
use Rattle.script_text.proofs.ShapeFormLemmas.{means-shape_line}

-- a fault behind the shape line
record AtLine (texts : List (List ℕ)) (number : ℕ) (found : Fault) : Type 0 where
  before : List (List ℕ)
  text : List ℕ
  after : List (List ℕ)
  are : texts ≡ before ++ text ∷ after
  counted : found.number ≡ number + length before
  clean : list_any has_bad_byte before ≡ false
  lines : List Line
  means : MeanLines (kept_words before) lines
  at_fault : IsAtFault line_of text found.kind

here : (text : List ℕ) (texts : List (List ℕ)) (number : ℕ) (found : Fault) → found.number ≡ number → IsAtFault line_of text found.kind → AtLine (text ∷ texts) number found
here text texts number found counted at_fault = record {
  before = [];
  text = text;
  after = texts;
  are = refl;
  counted = omega (arith, counted);
  clean = refl;
  lines = [];
  means = tt;
  at_fault = at_fault;
}

line_step : (text : List ℕ) (texts : List (List ℕ)) (past : List Line) (number : ℕ) (found : Fault) (bad skipped : Bool) (read : Result Line BadKind)
    → has_bad_byte text ≡ bad → is_skipped (words_of text) ≡ skipped → line_of (words_of text) ≡ read
    → ((past : List Line) (number : ℕ) → lines_after past number texts ≡ Err found → AtLine texts number found)
    → (if bad then fault number kind.Byte else (if skipped then lines_after past (number + 1) texts else (elim read [ Ok line ↦ lines_after (past ++ line ∷ []) (number + 1) texts | Err kind ↦ fault number kind ]))) ≡ Err found
    → AtLine (text ∷ texts) number found
line_step text texts past number found true skipped read bad_is skipped_is read_is later is =
    let made : Fault = record { number = number; kind = kind.Byte } in
    let same : made ≡ found = cc in
    here text texts number found (sym (ap (λ (f : Fault). f.number) same)) (inl (bad_is, sym (ap (λ (f : Fault). f.kind) same)))
line_step text texts past number found false true read bad_is skipped_is read_is later is =
    let rest = later past (number + 1) is in
    record {
      before = text ∷ rest.before;
      text = rest.text;
      after = rest.after;
      are = ap (λ texts. text ∷ texts) rest.are;
      counted = omega (arith, rest.counted);
      clean = rw bad_is rest.clean;
      lines = rest.lines;
      means = rw skipped_is rest.means;
      at_fault = rest.at_fault;
    }
line_step text texts past number found false false (Ok line) bad_is skipped_is read_is later is =
    let rest = later (past ++ line ∷ []) (number + 1) is in
    record {
      before = text ∷ rest.before;
      text = rest.text;
      after = rest.after;
      are = ap (λ texts. text ∷ texts) rest.are;
      counted = omega (arith, rest.counted);
      clean = rw bad_is rest.clean;
      lines = line ∷ rest.lines;
      means = rw skipped_is (means-line_of (words_of text) line read_is, rest.means);
      at_fault = rest.at_fault;
    }
line_step text texts past number found false false (Err kind) bad_is skipped_is read_is later is =
    let made : Fault = record { number = number; kind = kind } in
    let same : made ≡ found = cc in
    here text texts number found (sym (ap (λ (f : Fault). f.number) same))
    (inr (bad_is, skipped_is, read_is ∙ ap (λ (f : Fault). Err f.kind) same))

line_fault : (texts : List (List ℕ)) (past : List Line) (number : ℕ) (found : Fault) → lines_after past number texts ≡ Err found → AtLine texts number found
line_fault [] past number found is = cc
line_fault (text ∷ texts) past number found is =
    line_step text texts past number found (has_bad_byte text) (is_skipped (words_of text)) (line_of (words_of text)) refl refl refl (λ past number. line_fault texts past number found) is

-- a fault of a text from some line on, where the lines before are skipped
record BadFrom (texts : List (List ℕ)) (number : ℕ) (found : Fault) : Type 0 where
  before : List (List ℕ)
  text : List ℕ
  after : List (List ℕ)
  are : texts ≡ before ++ text ∷ after
  counted : found.number ≡ number + length before
  at_fault : IsFaultBehind before text found.kind

record LacksFrom (texts : List (List ℕ)) (number : ℕ) (found : Fault) : Type 0 where
  skipped : AreSkipped texts
  counted : found.number ≡ number + length texts
  kind : found.kind ≡ kind.NoShape

first_here : (text : List ℕ) (texts : List (List ℕ)) (number : ℕ) (found : Fault) → found.number ≡ number → IsAtFault shape_line text found.kind → BadFrom (text ∷ texts) number found
first_here text texts number found counted at_fault = record {
  before = [];
  text = text;
  after = texts;
  are = refl;
  counted = omega (arith, counted);
  at_fault = inl (record { clean = refl; kept = refl }, at_fault);
}

behind_skipped : (text : List ℕ) (before : List (List ℕ)) (at : List ℕ) (kind : BadKind) → has_bad_byte text ≡ false → is_skipped (words_of text) ≡ true → IsFaultBehind before at kind → IsFaultBehind (text ∷ before) at kind
behind_skipped text before at kind bad_is skipped_is (inl opening) = inl (record { clean = rw bad_is opening.0.clean; kept = rw skipped_is opening.0.kept }, opening.1)
behind_skipped text before at kind bad_is skipped_is (inr (shape, lines, script, at_fault)) =
    inr (shape, lines, record { clean = rw bad_is script.clean; first = script.first; others = script.others; kept = rw skipped_is script.kept; stands = script.stands; within = script.within; means = script.means }, at_fault)

skip : (text : List ℕ) (texts : List (List ℕ)) (number : ℕ) (found : Fault) → has_bad_byte text ≡ false → is_skipped (words_of text) ≡ true
    → BadFrom texts (number + 1) found ⊎ LacksFrom texts (number + 1) found → BadFrom (text ∷ texts) number found ⊎ LacksFrom (text ∷ texts) number found
skip text texts number found bad_is skipped_is (inl line) = inl (record {
  before = text ∷ line.before;
  text = line.text;
  after = line.after;
  are = ap (λ texts. text ∷ texts) line.are;
  counted = omega (arith, line.counted);
  at_fault = behind_skipped text line.before line.text found.kind bad_is skipped_is line.at_fault;
})
skip text texts number found bad_is skipped_is (inr lacks) = inr (record {
  skipped = record { clean = rw bad_is lacks.skipped.clean; kept = rw skipped_is lacks.skipped.kept };
  counted = omega (arith, lacks.counted);
  kind = lacks.kind;
})

shaped_fault : (shape : Shape) (read : Result (List Line) Fault) (found : Fault) → shaped shape read ≡ Err found → read ≡ Err found
shaped_fault shape (Ok lines) found is = cc
shaped_fault shape (Err fault) found is = let same : fault ≡ found = cc in ap (λ fault. Err fault) same

behind_shape : (text : List ℕ) (texts : List (List ℕ)) (shape : Shape) (number : ℕ) (found : Fault) → has_bad_byte text ≡ false → is_skipped (words_of text) ≡ false → shape_line (words_of text) ≡ Ok shape
    → AtLine texts (number + 1) found → BadFrom (text ∷ texts) number found
behind_shape text texts shape number found bad_is skipped_is read_is line =
    let means = means-shape_line (words_of text) shape read_is in
    record {
      before = text ∷ line.before;
      text = line.text;
      after = line.after;
      are = ap (λ texts. text ∷ texts) line.are;
      counted = omega (arith, line.counted);
      at_fault = inr (shape, line.lines, record { clean = rw bad_is line.clean; first = words_of text; others = kept_words line.before; kept = rw skipped_is refl; stands = means.stand; within = means.within; means = line.means }, line.at_fault);
    }

text_step : (text : List ℕ) (texts : List (List ℕ)) (number : ℕ) (found : Fault) (bad skipped : Bool) (read : Result Shape BadKind)
    → has_bad_byte text ≡ bad → is_skipped (words_of text) ≡ skipped → shape_line (words_of text) ≡ read
    → (script_after (number + 1) texts ≡ Err found → BadFrom texts (number + 1) found ⊎ LacksFrom texts (number + 1) found)
    → (if bad then fault number kind.Byte else (if skipped then script_after (number + 1) texts else (elim read [ Ok shape ↦ shaped shape (lines_after [] (number + 1) texts) | Err kind ↦ fault number kind ]))) ≡ Err found
    → BadFrom (text ∷ texts) number found ⊎ LacksFrom (text ∷ texts) number found
text_step text texts number found true skipped read bad_is skipped_is read_is later is =
    let made : Fault = record { number = number; kind = kind.Byte } in
    let same : made ≡ found = cc in
    inl (first_here text texts number found (sym (ap (λ (f : Fault). f.number) same)) (inl (bad_is, sym (ap (λ (f : Fault). f.kind) same))))
text_step text texts number found false true read bad_is skipped_is read_is later is = skip text texts number found bad_is skipped_is (later is)
text_step text texts number found false false (Ok shape) bad_is skipped_is read_is later is =
    inl (behind_shape text texts shape number found bad_is skipped_is read_is (line_fault texts [] (number + 1) found (shaped_fault shape (lines_after [] (number + 1) texts) found is)))
text_step text texts number found false false (Err kind) bad_is skipped_is read_is later is =
    let made : Fault = record { number = number; kind = kind } in
    let same : made ≡ found = cc in
    inl (first_here text texts number found (sym (ap (λ (f : Fault). f.number) same)) (inr (bad_is, skipped_is, read_is ∙ ap (λ (f : Fault). Err f.kind) same)))

text_fault : (texts : List (List ℕ)) (number : ℕ) (found : Fault) → script_after number texts ≡ Err found → BadFrom texts number found ⊎ LacksFrom texts number found
text_fault [] number found is =
    let made : Fault = record { number = number; kind = kind.NoShape } in
    let same : made ≡ found = cc in
    inr (record { skipped = record { clean = refl; kept = refl }; counted = omega (arith, ap (λ (f : Fault). f.number) same); kind = sym (ap (λ (f : Fault). f.kind) same) })
text_fault (text ∷ texts) number found is =
    text_step text texts number found (has_bad_byte text) (is_skipped (words_of text)) (shape_line (words_of text)) refl refl refl (text_fault texts (number + 1) found) is

from_first : (texts : List (List ℕ)) (found : Fault) → BadFrom texts 1 found ⊎ LacksFrom texts 1 found → IsFirstFault texts found
from_first texts found (inl line) = inl (record { before = line.before; text = line.text; after = line.after; are = line.are; number = omega (arith, line.counted); at_fault = line.at_fault })
from_first texts found (inr lacks) = inr (record { skipped = lacks.skipped; number = omega (arith, lacks.counted); kind = lacks.kind })

found_fault : (read : Result Plan Fault) (found : Fault) → result_err read ≡ Some found → read ≡ Err found
found_fault (Ok plan) found is = cc
found_fault (Err fault) found is = let same : fault ≡ found = cc in ap (λ fault. Err fault) same

-- the fault of a text is that of its first bad line
pub IsFirstFault-fault_of : (text : List ℕ) (found : Fault) → fault_of text ≡ Some found → IsFirstFault (lines_of text) found
unfolding reading_of
IsFirstFault-fault_of text found is = from_first (lines_of text) found (text_fault (lines_of text) 1 found (found_fault (reading_of text) found is))
