-- What is read has the shape of an output, and printed lines of this shape are read back.
use Rattle.std.proofs.Common.{◌≡◌, ℕ, zero, suc, ◌+◌, ◌-◌, ◌==◌, ◌<◌, Bool, true, false, List, [], ◌∷◌, Option, Some, None, Result, Ok, Err, refl, sym, ap, subst, ◌∙◌, arith}
use Rattle.std.specs.Prelude.{if◌then◌else◌, map}
use Rattle.std.proofs.lemmas.Bool.{false≢true}
use Rattle.std.proofs.lemmas.Bool.Decides.{nat_tests}
use Rattle.text_lines.specs.Lines.{has_bad_byte, lines_of}
use Rattle.text_lines.specs.Words.{words_of}
use Rattle.script_text.specs.OutputForm.{line_of, line_of_words}
use Rattle.script_text.specs.OutputMeaning.{LineMeans, LinesMean, MeansOutput}
use Rattle.script_text.specs.OutputRead.{Bad, at_text_end, entries_due, followed, led_by, output_of, placed, read_from, stage_after}
use Rattle.script_text.specs.OutputShape.{AreInRange, IsOutput, IsOutputFrom}
use Rattle.script_text.specs.OutputText.{joined, line_words, text_of}
use Rattle.script_text.specs.declared.faults.BadKind.{BadKind}
use Rattle.script_text.specs.declared.faults.BadKind.TheVariants as kind
use Rattle.script_text.specs.declared.out_lines.OutLine.{OutLine}
use Rattle.script_text.specs.declared.out_lines.OutLine.TheVariants as line
use Rattle.script_text.specs.declared.outputs.Stage.{Stage}
use Rattle.script_text.specs.declared.outputs.Stage.TheVariants.{Between, Entries, Listed, Ended, Misplaced}
use Rattle.script_text.proofs.MeantLemmas.{words_meant, words_read}
use Rattle.script_text.proofs.OutputLemmas.{read_from-line}
use Rattle.script_text.proofs.PrintedTextLemmas.{line_of-printed, lines_of-text_of}

abbrev stage_of : ℕ → Bool → Stage
stage_of (suc due) over = Entries (suc due)
stage_of zero true = Listed
stage_of zero false = Between

not_nothing : (n : ℕ) → 0 < n → (n == 0) ≡ false
not_nothing n some = grind (arith, nat_tests)

due_stage : (due : ℕ) → entries_due due ≡ stage_of due true
due_stage zero = refl
due_stage (suc due) = rw (not_nothing (suc due) (omega arith)) refl

one_less : (due : ℕ) → entries_due (suc due - 1) ≡ stage_of due true
one_less due = let less : suc due - 1 ≡ due = omega arith in ap entries_due less ∙ due_stage due

-- each text is read as a line
abbrev ReadEach : List (List ℕ) → List OutLine → Type 0
ReadEach [] [] = Unit {0}
ReadEach [] (out ∷ outs) = ⊥
ReadEach (text ∷ texts) [] = ⊥
ReadEach (text ∷ texts) (out ∷ outs) = (line_of text ≡ Ok out) × ReadEach texts outs

read_line : (number : ℕ) (stage next : Stage) (text : List ℕ) (texts : List (List ℕ)) (out : OutLine) (outs : List OutLine) → line_of text ≡ Ok out → stage_after stage out ≡ Some next
    → read_from (number + 1) next texts ≡ Ok outs → read_from number stage (text ∷ texts) ≡ Ok (out ∷ outs)
read_line number stage next text texts out outs is fits read = read_from-line number stage next text texts out is fits ∙ ap (led_by out) read

-- lines of the shape are read
shaped_read : (number due : ℕ) (over : Bool) (texts : List (List ℕ)) (outs : List OutLine) → IsOutputFrom due over outs → ReadEach texts outs → read_from number (stage_of due over) texts ≡ Ok outs
shaped_read number due over texts [] is each = absurd is
shaped_read number due over [] (out ∷ outs) is each = absurd each
shaped_read number (suc due) over (text ∷ texts) (line.Entry client count call reply mark ∷ outs) is each =
    read_line number (Entries (suc due)) (stage_of due true) text texts (line.Entry client count call reply mark) outs each.0 (ap Some (one_less due)) (shaped_read (number + 1) due true texts outs is each.1)
shaped_read number (suc due) over (text ∷ texts) (out ∷ outs) is each = absurd is
shaped_read number zero over (text ∷ texts) (line.Entry client count call reply mark ∷ outs) is each = absurd is
shaped_read number zero true (text ∷ texts) (line.History count ∷ outs) is each =
    read_line number Listed (stage_of count true) text texts (line.History count) outs each.0 (ap Some (due_stage count)) (shaped_read (number + 1) count true texts outs is each.1)
shaped_read number zero false (text ∷ texts) (line.History count ∷ outs) is each =
    read_line number Between (stage_of count true) text texts (line.History count) outs each.0 (ap Some (due_stage count)) (shaped_read (number + 1) count true texts outs is each.1)
shaped_read number zero true (text ∷ []) (line.End ∷ []) is each = read_line number Listed Ended text [] line.End [] each.0 refl refl
shaped_read number zero true (text ∷ next ∷ texts) (line.End ∷ []) is each = absurd each.1
shaped_read number zero true (text ∷ texts) (line.End ∷ out ∷ outs) is each = cc
shaped_read number zero false (text ∷ texts) (line.End ∷ outs) is each = absurd (false≢true is.0)
shaped_read number zero true (text ∷ texts) (out ∷ outs) is each = read_line number Listed Between text texts out outs each.0 refl (shaped_read (number + 1) zero false texts outs is each.1)
shaped_read number zero false (text ∷ texts) (out ∷ outs) is each = read_line number Between Between text texts out outs each.0 refl (shaped_read (number + 1) zero false texts outs is each.1)

abbrev printed : OutLine → List ℕ
printed out = joined (line_words out)

printed_each : (outs : List OutLine) → AreInRange outs → ReadEach (map printed outs) outs
printed_each [] small = tt
printed_each (out ∷ outs) small = (line_of-printed out small.0, printed_each outs small.1)

pub output_of-text_of : (outs : List OutLine) → IsOutput outs → AreInRange outs → output_of (text_of outs) ≡ Ok outs
output_of-text_of outs is small = ap (read_from 1 Between) (lines_of-text_of outs small) ∙ shaped_read 1 0 false (map printed outs) outs is (printed_each outs small)

-- what is read has the shape

record LedBy (out : OutLine) (read : Result (List OutLine) Bad) (outs : List OutLine) : Type 0 where
  later : List OutLine
  is : outs ≡ out ∷ later
  read_is : read ≡ Ok later

led : (out : OutLine) (read : Result (List OutLine) Bad) (outs : List OutLine) → led_by out read ≡ Ok outs → LedBy out read outs
led out (Ok lines) outs is = record { later = lines; is = cc; read_is = refl }
led out (Err bad) outs is = cc

no_line_after : (number : ℕ) (stage : Stage) (line_read : Result OutLine BadKind) (behind : Stage → Result (List OutLine) Bad) (outs : List OutLine)
    → ((out : OutLine) → stage_after stage out ≡ None) → followed number stage line_read behind ≡ Ok outs → ⊥
no_line_after number stage (Err kind) behind outs never is = cc
no_line_after number stage (Ok out) behind outs never is =
    let refused : placed number out None behind ≡ Ok outs = rw (never out) at is in
    cc

nothing_after_end : (number : ℕ) (texts : List (List ℕ)) (outs : List OutLine) → read_from number Ended texts ≡ Ok outs → outs ≡ []
nothing_after_end number [] outs is = cc
nothing_after_end number (text ∷ texts) outs is = absurd (no_line_after number Ended (line_of text) (λ next. read_from (number + 1) next texts) outs (λ out. refl) is)

nothing_misplaced : (number : ℕ) (texts : List (List ℕ)) (outs : List OutLine) → read_from number Misplaced texts ≡ Ok outs → ⊥
nothing_misplaced number [] outs is = cc
nothing_misplaced number (text ∷ texts) outs is = no_line_after number Misplaced (line_of text) (λ next. read_from (number + 1) next texts) outs (λ out. refl) is

abbrev ReadShaped : List (List ℕ) → Type 0
ReadShaped texts = (number due : ℕ) (over : Bool) (outs : List OutLine) → read_from number (stage_of due over) texts ≡ Ok outs → IsOutputFrom due over outs

-- a line that is read, and lines behind it that have the shape
shaped_line : (number due : ℕ) (over : Bool) (texts : List (List ℕ)) (out : OutLine) (outs : List OutLine) → ReadShaped texts
    → placed number out (stage_after (stage_of due over) out) (λ next. read_from (number + 1) next texts) ≡ Ok outs → IsOutputFrom due over outs
shaped_line number (suc due) over texts (line.Entry client count call reply mark) outs behind is =
    let parts = led _ _ outs is in
    rw parts.is (behind (number + 1) due true parts.later (sym (ap (λ stage. read_from (number + 1) stage texts) (one_less due)) ∙ parts.read_is))
shaped_line number (suc due) over texts out outs behind is = cc
shaped_line number zero true texts (line.Entry client count call reply mark) outs behind is = cc
shaped_line number zero false texts (line.Entry client count call reply mark) outs behind is = cc
shaped_line number zero true texts (line.History count) outs behind is =
    let parts = led _ _ outs is in
    rw parts.is (behind (number + 1) count true parts.later (sym (ap (λ stage. read_from (number + 1) stage texts) (due_stage count)) ∙ parts.read_is))
shaped_line number zero false texts (line.History count) outs behind is =
    let parts = led _ _ outs is in
    rw parts.is (behind (number + 1) count true parts.later (sym (ap (λ stage. read_from (number + 1) stage texts) (due_stage count)) ∙ parts.read_is))
shaped_line number zero true texts line.End outs behind is =
    let parts = led _ _ outs is in
    rw parts.is (refl, nothing_after_end (number + 1) texts parts.later parts.read_is)
shaped_line number zero false texts line.End outs behind is =
    let parts = led _ _ outs is in
    absurd (nothing_misplaced (number + 1) texts parts.later parts.read_is)
shaped_line number zero true texts out outs behind is =
    let parts = led out (read_from (number + 1) Between texts) outs is in
    rw parts.is (behind (number + 1) zero false parts.later parts.read_is)
shaped_line number zero false texts out outs behind is =
    let parts = led out (read_from (number + 1) Between texts) outs is in
    rw parts.is (behind (number + 1) zero false parts.later parts.read_is)

shaped_lines : (number due : ℕ) (over : Bool) (texts : List (List ℕ)) (read : Result OutLine BadKind) (outs : List OutLine) → ReadShaped texts
    → followed number (stage_of due over) read (λ next. read_from (number + 1) next texts) ≡ Ok outs → IsOutputFrom due over outs
shaped_lines number due over texts (Err kind) outs behind is = cc
shaped_lines number due over texts (Ok out) outs behind is = shaped_line number due over texts out outs behind is

read_shaped : (texts : List (List ℕ)) → ReadShaped texts
read_shaped [] number (suc due) over outs is = cc
read_shaped [] number zero true outs is = cc
read_shaped [] number zero false outs is = cc
read_shaped (text ∷ texts) number due over outs is = shaped_lines number due over texts (line_of text) outs (read_shaped texts) is

pub output_of-shape : (text : List ℕ) (outs : List OutLine) → output_of text ≡ Ok outs → IsOutput outs
output_of-shape text outs is = read_shaped (lines_of text) 1 0 false outs is

-- what is read is each line

each_led : (text : List ℕ) (texts : List (List ℕ)) (out : OutLine) (outs later : List OutLine) → line_of text ≡ Ok out → outs ≡ out ∷ later → ReadEach texts later → ReadEach (text ∷ texts) outs
each_led text texts out outs later is first each = subst (ReadEach (text ∷ texts)) (sym first) (is, each)

abbrev EachRead : List (List ℕ) → Type 0
EachRead texts = (number : ℕ) (stage : Stage) (outs : List OutLine) → read_from number stage texts ≡ Ok outs → ReadEach texts outs

each_placed : (number : ℕ) (text : List ℕ) (texts : List (List ℕ)) (out : OutLine) (place : Option Stage) (outs : List OutLine) → EachRead texts → line_of text ≡ Ok out
    → placed number out place (λ next. read_from (number + 1) next texts) ≡ Ok outs → ReadEach (text ∷ texts) outs
each_placed number text texts out None outs behind is read = cc
each_placed number text texts out (Some next) outs behind is read =
    let parts = led out (read_from (number + 1) next texts) outs read in
    each_led text texts out outs parts.later is parts.is (behind (number + 1) next parts.later parts.read_is)

each_followed : (number : ℕ) (stage : Stage) (text : List ℕ) (texts : List (List ℕ)) (line_read : Result OutLine BadKind) (outs : List OutLine) → EachRead texts → line_of text ≡ line_read
    → followed number stage line_read (λ next. read_from (number + 1) next texts) ≡ Ok outs → ReadEach (text ∷ texts) outs
each_followed number stage text texts (Err kind) outs behind is read = cc
each_followed number stage text texts (Ok out) outs behind is read = each_placed number text texts out (stage_after stage out) outs behind is read

no_lines : (number : ℕ) (stage : Stage) (outs : List OutLine) → at_text_end number stage ≡ Ok outs → ReadEach [] outs
no_lines number Ended [] is = tt
no_lines number Ended (out ∷ outs) is = cc
no_lines number Between outs is = cc
no_lines number (Entries due) outs is = cc
no_lines number Listed outs is = cc
no_lines number Misplaced outs is = cc

each_read : (texts : List (List ℕ)) → EachRead texts
each_read [] number stage outs is = no_lines number stage outs is
each_read (text ∷ texts) number stage outs is = each_followed number stage text texts (line_of text) outs (each_read texts) refl is

-- a text is read as an output exactly where it means it

line_means : (text : List ℕ) (bad : Bool) (out : OutLine) → has_bad_byte text ≡ bad → (if bad then Err kind.Byte else line_of_words (words_of text)) ≡ Ok out → LineMeans text out
line_means text true out is read = cc
line_means text false out is read = (is, words_meant (words_of text) out read)

line_read : (text : List ℕ) (out : OutLine) → LineMeans text out → line_of text ≡ Ok out
line_read text out means = rw means.0 (words_read (words_of text) out means.1)

lines_mean : (texts : List (List ℕ)) (outs : List OutLine) → ReadEach texts outs → LinesMean texts outs
lines_mean [] [] each = tt
lines_mean [] (out ∷ outs) each = absurd each
lines_mean (text ∷ texts) [] each = absurd each
lines_mean (text ∷ texts) (out ∷ outs) each = (line_means text (has_bad_byte text) out refl each.0, lines_mean texts outs each.1)

lines_read : (texts : List (List ℕ)) (outs : List OutLine) → LinesMean texts outs → ReadEach texts outs
lines_read [] [] mean = tt
lines_read [] (out ∷ outs) mean = absurd mean
lines_read (text ∷ texts) [] mean = absurd mean
lines_read (text ∷ texts) (out ∷ outs) mean = (line_read text out mean.0, lines_read texts outs mean.1)

pub read_means : (text : List ℕ) (outs : List OutLine) → output_of text ≡ Ok outs → MeansOutput text outs
read_means text outs is = (lines_mean (lines_of text) outs (each_read (lines_of text) 1 Between outs is), output_of-shape text outs is)

pub means_read : (text : List ℕ) (outs : List OutLine) → MeansOutput text outs → output_of text ≡ Ok outs
means_read text outs means = shaped_read 1 0 false (lines_of text) outs means.1 (lines_read (lines_of text) outs means.0)
