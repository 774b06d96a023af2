-- The answers of a lease run, cut at a line.
use Rattle.std.proofs.Common.{◌≡◌, ℕ, zero, suc, ◌+◌, ◌<◌, ◌≤◌, List, [], ◌∷◌, ◌++◌, length, take, drop, get_or, refl, sym, ap, ◌∙◌, append_assoc, append-nil, arith}
use Rattle.std.specs.Io.KnownBytes.{Appends}
use Rattle.std.specs.Prelude.{Option}
use Rattle.std.proofs.lemmas.Grind.{flat_map-append}
use Rattle.lease_core.specs.Run.{Run, answer_of, answers_along, opening, run_after, run_along}
use Rattle.lease_core.specs.Terms.{Agreed}
use Rattle.lease_core.specs.Text.{answer_text, run_text, text_of}
use Rattle.lease_core.specs.declared.answering.LeaseAnswer.{LeaseAnswer}
use Rattle.lease_core.specs.declared.answering.LeaseAnswer.TheVariants as told
use Rattle.lease_core.specs.declared.lease_lines.LeaseLine.{LeaseLine}
use Rattle.lease_core.proofs.FrontLemmas.{answers_along-more, run_along-more}
use Rattle.outside.proofs.AppendedLemmas.{appends_then}
use Rattle.script_run.specs.Written.{Stops}
use Rattle.script_run.specs.declared.writing.Unwritten.{Unwritten}
use Rattle.script_run.proofs.WrittenLemmas.{stops_then}

answers_along-cut : (run : Run) (lines : List LeaseLine) (i : ℕ) (line : LeaseLine) → i < length lines → line ≡ get_or lines i line
    → answers_along run lines ≡ answers_along run (take i lines) ++ (answer_of (run_along run (take i lines)) line ∷ answers_along (run_after (run_along run (take i lines)) line) (drop (suc i) lines))
answers_along-cut run [] i line within is = absurd (omega arith)
answers_along-cut run (x ∷ lines) zero line within is = ap (λ y. answer_of run y ∷ answers_along (run_after run y) lines) (sym is)
answers_along-cut run (x ∷ lines) (suc i) line within is = ap (λ l. answer_of run x ∷ l) (answers_along-cut (run_after run x) lines i line (omega arith) is)

-- whatever stands for what is missing, the line at a place is the same
get_or-any : (lines : List LeaseLine) (i : ℕ) (d e : LeaseLine) → i < length lines → get_or lines i d ≡ get_or lines i e
get_or-any [] i d e within = absurd (omega arith)
get_or-any (x ∷ lines) zero d e within = refl
get_or-any (x ∷ lines) (suc i) d e within = get_or-any lines i d e (omega arith)

pub run_after-next : (run before now : Run) (lines : List LeaseLine) (i : ℕ) (d : LeaseLine) → i < length lines → before ≡ run_along run (take i lines)
    → now ≡ run_after before (get_or lines i d) → now ≡ run_along run (take (i + 1) lines)
run_after-next run before now lines i d within known is =
    is ∙ ap (λ r. run_after r (get_or lines i d)) known ∙ sym (run_along-more run lines i (get_or lines i d) d within refl)

-- the text of one answer more
text_of-more : (run : Run) (lines : List LeaseLine) (i : ℕ) (line : LeaseLine) → i < length lines → line ≡ get_or lines i line
    → text_of (answers_along run (take (i + 1) lines)) ≡ text_of (answers_along run (take i lines)) ++ answer_text (answer_of (run_along run (take i lines)) line)
text_of-more run lines i line within is =
    let here : LeaseAnswer = answer_of (run_along run (take i lines)) line in
    ap text_of (answers_along-more run lines i line line within is)
    ∙ flat_map-append answer_text (answers_along run (take i lines)) (here ∷ [])
    ∙ ap (λ l. text_of (answers_along run (take i lines)) ++ l) (append-nil (answer_text here))

pub appends-next : (a b c : Option (List ℕ)) (run before : Run) (lines : List LeaseLine) (i : ℕ) (d : LeaseLine) → i < length lines → before ≡ run_along run (take i lines)
    → Appends a b (text_of (answers_along run (take i lines))) → Appends b c (answer_text (answer_of before (get_or lines i d))) → Appends a c (text_of (answers_along run (take (i + 1) lines)))
appends-next a b c run before lines i d within known past here =
    let wrote = rw known at here in
    rw (text_of-more run lines i (get_or lines i d) within (get_or-any lines i d (get_or lines i d) within))
    (appends_then a b c (text_of (answers_along run (take i lines))) (answer_text (answer_of (run_along run (take i lines)) (get_or lines i d))) past wrote)

-- the text of the whole run, cut at the answer to a line
run_text-cut : (terms : Agreed) (lines : List LeaseLine) (i : ℕ) (line : LeaseLine) → i < length lines → line ≡ get_or lines i line
    → run_text terms lines ≡ text_of (answers_along (opening terms) (take i lines)) ++ (answer_text (answer_of (run_along (opening terms) (take i lines)) line)
    ++ text_of (answers_along (run_after (run_along (opening terms) (take i lines)) line) (drop (suc i) lines) ++ told.End ∷ []))
run_text-cut terms lines i line within is =
    let front : List LeaseAnswer = answers_along (opening terms) (take i lines) in
    let here : LeaseAnswer = answer_of (run_along (opening terms) (take i lines)) line in
    let behind : List LeaseAnswer = answers_along (run_after (run_along (opening terms) (take i lines)) line) (drop (suc i) lines) in
    ap (λ l. text_of (l ++ told.End ∷ [])) (answers_along-cut (opening terms) lines i line within is)
    ∙ ap text_of (append_assoc front (here ∷ behind) (told.End ∷ []))
    ∙ flat_map-append answer_text front (here ∷ (behind ++ told.End ∷ []))

-- the writing of the answers stops at a line
pub Stops-at : (a b c : Option (List ℕ)) (first second third : ℕ) (why : Unwritten) (terms : Agreed) (before : Run) (lines : List LeaseLine) (i : ℕ) (d : LeaseLine) → i < length lines → before ≡ run_along (opening terms) (take i lines)
    → Appends a b (text_of (answers_along (opening terms) (take i lines))) → first ≤ second → Stops b c second third why (answer_text (answer_of before (get_or lines i d))) → Stops a c first third why (run_text terms lines)
Stops-at a b c first second third why terms before lines i d within known past later here =
    let line = get_or lines i d in
    let run : Run = run_along (opening terms) (take i lines) in
    let wrote = rw known at here in
    rw (run_text-cut terms lines i line within (get_or-any lines i d line within))
    (stops_then a b c first second third why (text_of (answers_along (opening terms) (take i lines))) (answer_text (answer_of run line)) (text_of (answers_along (run_after run line) (drop (suc i) lines) ++ told.End ∷ [])) past later wrote)

-- the text of the whole run, cut at `end`
pub run_text-end : (terms : Agreed) (lines : List LeaseLine) → run_text terms lines ≡ text_of (answers_along (opening terms) lines) ++ answer_text told.End
run_text-end terms lines =
    flat_map-append answer_text (answers_along (opening terms) lines) (told.End ∷ [])
    ∙ ap (λ l. text_of (answers_along (opening terms) lines) ++ l) (append-nil (answer_text told.End))
