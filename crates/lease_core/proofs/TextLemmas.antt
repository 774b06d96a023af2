-- How the text of a run grows, line by line, for whoever writes it.
use Rattle.std.proofs.Common.{◌≡◌, ℕ, ◌+◌, ◌<◌, List, [], ◌∷◌, ◌++◌, length, take, get_or, append-nil, sym, ◌∙◌, ap}
use Rattle.std.proofs.lemmas.List.Concat.{flat_map-append}
use Rattle.lease_core.specs.declared.lease_lines.LeaseLine.{LeaseLine}
use Rattle.lease_core.specs.declared.answering.LeaseAnswer.{LeaseAnswer}
use Rattle.lease_core.specs.declared.answering.LeaseAnswer.TheVariants as told
use Rattle.lease_core.specs.Terms.{Agreed}
use Rattle.lease_core.specs.Run.{Run, answer_of, answers_along, opening, run_after, run_along}
use Rattle.lease_core.specs.Text.{answer_text, run_text, text_of}
use Rattle.lease_core.proofs.FrontLemmas.{answers_along-more, run_along-more}

-- the state after one more line
pub state-more : (start run run' : Run) (lines : List LeaseLine) (i : ℕ) (line d : LeaseLine) → i < length lines → line ≡ get_or lines i d → run ≡ run_along start (take i lines) → run' ≡ run_after run line → run' ≡ run_along start (take (i + 1) lines)
state-more start run run' lines i line d within is was after = after ∙ ap (λ r. run_after r line) was ∙ sym (run_along-more start lines i line d within is)

-- and the text
pub text-more : (start run : Run) (lines : List LeaseLine) (i : ℕ) (line d : LeaseLine) (answer : LeaseAnswer) (text text' : List ℕ) → i < length lines → line ≡ get_or lines i d → run ≡ run_along start (take i lines) → text ≡ text_of (answers_along start (take i lines)) → answer ≡ answer_of run line → text' ≡ text ++ answer_text answer → text' ≡ text_of (answers_along start (take (i + 1) lines))
text-more start run lines i line d answer text text' within is was had said pushed =
    let answer_is : answer ≡ answer_of (run_along start (take i lines)) line = said ∙ ap (λ r. answer_of r line) was in
    pushed
    ∙ ap (λ t. t ++ answer_text answer) had
    ∙ ap (λ a. text_of (answers_along start (take i lines)) ++ answer_text a) answer_is
    ∙ ap (λ t. text_of (answers_along start (take i lines)) ++ t) (sym (append-nil (answer_text (answer_of (run_along start (take i lines)) line))))
    ∙ sym (flat_map-append answer_text (answers_along start (take i lines)) (answer_of (run_along start (take i lines)) line ∷ []))
    ∙ sym (ap text_of (answers_along-more start lines i line d within is))

-- and `end` behind all lines
pub text-end : (terms : Agreed) (lines : List LeaseLine) → run_text terms lines ≡ text_of (answers_along (opening terms) lines) ++ answer_text told.End
text-end terms lines =
    flat_map-append answer_text (answers_along (opening terms) lines) (told.End ∷ [])
    ∙ ap (λ t. text_of (answers_along (opening terms) lines) ++ t) (append-nil (answer_text told.End))
