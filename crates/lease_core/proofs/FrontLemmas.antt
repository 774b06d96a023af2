-- The state of a run after a front of its lines, and the answers by their places.
use Rattle.std.proofs.Common.{◌≡◌, ◌≢◌, ℕ, zero, suc, add-one, get_or, ◌+◌, ◌≤◌, ◌<◌, ◌⊎◌, inl, inr, List, [], ◌∷◌, ◌++◌, length, take, drop, Some, refl, sym, ◌∙◌, ap}
use Rattle.std.proofs.lemmas.List.{take-append-drop, take-take, take_more}
use Rattle.std.proofs.lemmas.Option.{slice_get-get_or}
use Rattle.std.specs.Prelude.{slice_get}
use Rattle.lease_core.specs.declared.lease_lines.LeaseLine.{LeaseLine}
use Rattle.lease_core.specs.declared.answering.LeaseAnswer.{LeaseAnswer}
use Rattle.lease_core.specs.declared.answering.LeaseAnswer.TheVariants as told
use Rattle.lease_core.specs.Terms.{Agreed}
use Rattle.lease_core.specs.Run.{Run, answer_of, answers, answers_along, opening, run_after, run_along}

-- the state before the line at this place
abbrev pub state_at : Agreed → List LeaseLine → ℕ → Run
state_at terms lines n = run_along (opening terms) (take n lines)

run_along-append : (run : Run) (xs ys : List LeaseLine) → run_along run (xs ++ ys) ≡ run_along (run_along run xs) ys
run_along-append run [] ys = refl
run_along-append run (x ∷ xs) ys = run_along-append (run_after run x) xs ys

run_along-take : (run : Run) (lines : List LeaseLine) (n : ℕ) (line : LeaseLine) → slice_get lines n ≡ Some line → run_along run (take (suc n) lines) ≡ run_after (run_along run (take n lines)) line
run_along-take run [] n line h = cc
run_along-take run (x ∷ lines) zero line h = let same : x ≡ line = cc in ap (λ l. run_after run l) same
run_along-take run (x ∷ lines) (suc n) line h = run_along-take (run_after run x) lines n line h

-- the state after the line at a place
pub state-next : (terms : Agreed) (lines : List LeaseLine) (n : ℕ) (line : LeaseLine) → slice_get lines n ≡ Some line → state_at terms lines (suc n) ≡ run_after (state_at terms lines n) line
state-next terms lines n line h = run_along-take (opening terms) lines n line h

-- a later state comes from an earlier one
pub state-later : (terms : Agreed) (lines : List LeaseLine) (m n : ℕ) → m ≤ n → (between : List LeaseLine) × (state_at terms lines n ≡ run_along (state_at terms lines m) between)
state-later terms lines m n le =
    let parts : take n lines ≡ take m lines ++ drop m (take n lines) = sym (take-append-drop m (take n lines)) ∙ ap (λ front. front ++ drop m (take n lines)) (take-take m n lines le) in
    (drop m (take n lines), ap (run_along (opening terms)) parts ∙ run_along-append (opening terms) (take m lines) (drop m (take n lines)))

-- ---- answers by their places

along_at : (run : Run) (lines : List LeaseLine) (n : ℕ) (line : LeaseLine) → slice_get lines n ≡ Some line → slice_get (answers_along run lines) n ≡ Some (answer_of (run_along run (take n lines)) line)
along_at run [] n line h = cc
along_at run (x ∷ lines) zero line h = let same : x ≡ line = cc in ap (λ l. Some (answer_of run l)) same
along_at run (x ∷ lines) (suc n) line h = along_at (run_after run x) lines n line h

pub record Line (terms : Agreed) (lines : List LeaseLine) (n : ℕ) (answer : LeaseAnswer) : Type 0 where
  pub line : LeaseLine
  pub there : slice_get lines n ≡ Some line
  pub answered : answer_of (state_at terms lines n) line ≡ answer

line_along : (run : Run) (lines : List LeaseLine) (n : ℕ) (answer : LeaseAnswer) → slice_get (answers_along run lines) n ≡ Some answer → (line : LeaseLine) × (slice_get lines n ≡ Some line) × (answer_of (run_along run (take n lines)) line ≡ answer)
line_along run [] n answer h = cc
line_along run (x ∷ lines) zero answer h = (x, refl, cc)
line_along run (x ∷ lines) (suc n) answer h = line_along (run_after run x) lines n answer h

get-push : (xs : List LeaseAnswer) (n : ℕ) (x y : LeaseAnswer) → slice_get (xs ++ y ∷ []) n ≡ Some x → (slice_get xs n ≡ Some x) ⊎ (x ≡ y)
get-push [] zero x y h = inr cc
get-push [] (suc n) x y h = cc
get-push (z ∷ xs) zero x y h = inl h
get-push (z ∷ xs) (suc n) x y h = get-push xs n x y h

get-before : (xs ys : List LeaseAnswer) (n : ℕ) (x : LeaseAnswer) → slice_get xs n ≡ Some x → slice_get (xs ++ ys) n ≡ Some x
get-before [] ys n x h = cc
get-before (z ∷ xs) ys zero x h = h
get-before (z ∷ xs) ys (suc n) x h = get-before xs ys n x h

-- each answer but the last is that to a line
pub line_of : (terms : Agreed) (lines : List LeaseLine) (n : ℕ) (answer : LeaseAnswer) → slice_get (answers terms lines) n ≡ Some answer → answer ≢ told.End → Line terms lines n answer
line_of terms lines n answer h other = elim (get-push (answers_along (opening terms) lines) n answer told.End h) [
  | inl before ↦ let at = line_along (opening terms) lines n answer before in record { line = at.0; there = at.1; answered = at.2 }
  | inr last ↦ absurd (other last)
]

-- each line has its answer
pub answer_at : (terms : Agreed) (lines : List LeaseLine) (n : ℕ) (line : LeaseLine) → slice_get lines n ≡ Some line → slice_get (answers terms lines) n ≡ Some (answer_of (state_at terms lines n) line)
answer_at terms lines n line h = get-before (answers_along (opening terms) lines) (told.End ∷ []) n _ (along_at (opening terms) lines n line h)

-- a place has one line, and one answer
pub same_at : {X : Type 0} (xs : List X) (n : ℕ) (x y : X) → slice_get xs n ≡ Some x → slice_get xs n ≡ Some y → x ≡ y
same_at xs n x y p q = let e : Some x ≡ Some y = sym p ∙ q in cc

-- the answer that stands at a line's place is that to the line
pub answered_at : (terms : Agreed) (lines : List LeaseLine) (n : ℕ) (line : LeaseLine) (answer : LeaseAnswer) → slice_get lines n ≡ Some line → slice_get (answers terms lines) n ≡ Some answer → answer_of (state_at terms lines n) line ≡ answer
answered_at terms lines n line answer there answered = same_at (answers terms lines) n _ answer (answer_at terms lines n line there) answered

-- ---- one more line

answers_along-push : (run : Run) (lines : List LeaseLine) (line : LeaseLine) → answers_along run (lines ++ line ∷ []) ≡ answers_along run lines ++ answer_of (run_along run lines) line ∷ []
answers_along-push run [] line = refl
answers_along-push run (x ∷ lines) line = ap (λ l. answer_of run x ∷ l) (answers_along-push (run_after run x) lines line)

-- the state after one more line
pub run_along-more : (run : Run) (lines : List LeaseLine) (i : ℕ) (line d : LeaseLine) → i < length lines → line ≡ get_or lines i d → run_along run (take (i + 1) lines) ≡ run_after (run_along run (take i lines)) line
run_along-more run lines i line d within is = ap (λ n. run_along run (take n lines)) (add-one i) ∙ run_along-take run lines i line (slice_get-get_or lines i d within ∙ ap Some (sym is))

-- and the answers
pub answers_along-more : (run : Run) (lines : List LeaseLine) (i : ℕ) (line d : LeaseLine) → i < length lines → line ≡ get_or lines i d → answers_along run (take (i + 1) lines) ≡ answers_along run (take i lines) ++ answer_of (run_along run (take i lines)) line ∷ []
answers_along-more run lines i line d within is =
    ap (answers_along run) (take_more lines i d within ∙ ap (λ l. take i lines ++ l ∷ []) (sym is)) ∙ answers_along-push run (take i lines) line
