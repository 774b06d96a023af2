-- Reading a text, a line after the other.
use Rattle.std.proofs.Common.{◌≡◌, ℕ, ◌+◌, true, List, [], ◌∷◌, ◌++◌, Some, Result, Ok, Err, refl, sym, ap, ◌∙◌, append_assoc}
use Rattle.std.proofs.lemmas.List.{append-nil}
use Rattle.script_text.specs.OutputForm.{line_of}
use Rattle.script_text.specs.OutputRead.{Bad, at_text_end, followed, is_closed, led_by, led_by_all, placed, read_from, stage_after}
use Rattle.script_text.specs.declared.out_lines.OutLine.{OutLine}
use Rattle.script_text.specs.declared.outputs.Stage.{Stage}

pub read_from-line : (number : ℕ) (stage next : Stage) (text : List ℕ) (texts : List (List ℕ)) (out : OutLine) → line_of text ≡ Ok out → stage_after stage out ≡ Some next
    → read_from number stage (text ∷ texts) ≡ led_by out (read_from (number + 1) next texts)
read_from-line number stage next text texts out is fits =
    ap (λ read. followed number stage read (λ later. read_from (number + 1) later texts)) is
    ∙ ap (λ place. placed number out place (λ later. read_from (number + 1) later texts)) fits

pub led_by_all-push : (outs : List OutLine) (out : OutLine) (read : Result (List OutLine) Bad) → led_by_all outs (led_by out read) ≡ led_by_all (outs ++ out ∷ []) read
led_by_all-push outs out (Ok lines) = ap Ok (sym (append_assoc outs (out ∷ []) lines))
led_by_all-push outs out (Err bad) = refl

-- one line more
pub read_more : (whole : Result (List OutLine) Bad) (outs outs' : List OutLine) (number : ℕ) (stage next : Stage) (texts rest : List (List ℕ)) (text : List ℕ) (out : OutLine)
    → whole ≡ led_by_all outs (read_from number stage texts) → texts ≡ text ∷ rest → line_of text ≡ Ok out → Some next ≡ stage_after stage out → outs' ≡ outs ++ out ∷ []
    → whole ≡ led_by_all outs' (read_from (number + 1) next rest)
read_more whole outs outs' number stage next texts rest text out so_far cut is fits more =
    so_far ∙ ap (λ ts. led_by_all outs (read_from number stage ts)) cut ∙ ap (led_by_all outs) (read_from-line number stage next text rest out is (sym fits))
    ∙ led_by_all-push outs out (read_from (number + 1) next rest) ∙ ap (λ xs. led_by_all xs (read_from (number + 1) next rest)) (sym more)

at_end : (number : ℕ) (stage : Stage) → is_closed stage ≡ true → at_text_end number stage ≡ Ok []
at_end number stage closed = rw closed refl

-- the lines are over
pub read_whole : (whole : Result (List OutLine) Bad) (outs : List OutLine) (number : ℕ) (stage : Stage) (texts : List (List ℕ)) → whole ≡ led_by_all outs (read_from number stage texts)
    → texts ≡ [] → is_closed stage ≡ true → whole ≡ Ok outs
read_whole whole outs number stage texts so_far over closed =
    so_far ∙ ap (λ ts. led_by_all outs (read_from number stage ts)) over ∙ ap (λ read. led_by_all outs read) (at_end number stage closed) ∙ ap Ok (append-nil outs)
