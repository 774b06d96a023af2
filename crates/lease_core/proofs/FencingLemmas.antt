-- No lawful verb after fencing.
use Rattle.std.proofs.Common.{◌≡◌, ℕ, suc, ◌≤◌, ◌<◌, true, inl, inr, List, take, Some, None, sym, ◌∙◌, ap, subst, arith}
use Rattle.std.proofs.lemmas.Bool.{cases_lt, cases_eq}
use Rattle.std.specs.Int.{abs_diff}
use Rattle.std.specs.Prelude.{slice_get}
use Rattle.lease_core.specs.declared.lease_lines.LeaseLine.{LeaseLine}
use Rattle.lease_core.specs.declared.lease_lines.LeaseLine.TheVariants as event
use Rattle.lease_core.specs.declared.answering.LeaseAnswer.TheVariants as told
use Rattle.lease_core.specs.Terms.{Agreed, AreTerms}
use Rattle.lease_core.specs.Book.{IsClient, is_fenced}
use Rattle.lease_core.specs.Claims.{IsAnswered}
use Rattle.lease_core.specs.Line.{client_clock, master_clock}
use Rattle.lease_core.specs.Run.{Run, answer_of, answers, opening, refusal_of}
use Rattle.lease_core.proofs.AcceptedLemmas.{IsWhole, in_time}
use Rattle.lease_core.proofs.AnswerLemmas.{fenced_answer, fenced_then, lawful_answer}
use Rattle.lease_core.proofs.FrontLemmas.{answered_at, line_of, same_at, state-later, state-next, state_at}
use Rattle.lease_core.proofs.GrowthLemmas.{Grows, grows_along, whole_along, whole_opening}
use Rattle.lease_core.proofs.SafetyLemmas.{IsSound, sound_along, sound_opening}

pub sound_at : (terms : Agreed) (lines : List LeaseLine) (n : ℕ) → AreTerms terms → IsSound terms (state_at terms lines n)
sound_at terms lines n are = sound_along terms (opening terms) (take n lines) are (sound_opening terms)

pub whole_at : (terms : Agreed) (lines : List LeaseLine) (n : ℕ) → IsWhole (state_at terms lines n)
whole_at terms lines n = whole_along (opening terms) (take n lines) (whole_opening terms)

pub grows_at : (terms : Agreed) (lines : List LeaseLine) (m n d : ℕ) → m ≤ n → IsClient d → Grows d (state_at terms lines m) (state_at terms lines n)
grows_at terms lines m n d le is_d =
    let more = state-later terms lines m n le in
    subst (Grows d (state_at terms lines m)) (sym more.1) (grows_along d (state_at terms lines m) more.0 (whole_at terms lines m) is_d)

-- where a client is fenced, none of its verbs is lawful
unlawful : (terms : Agreed) (run : Run) (line : LeaseLine) (c : ℕ) → IsSound terms run → is_fenced run.book c ≡ true → answer_of run line ≡ told.Lawful c → ⊥
unlawful terms run line c sound fenced h =
    let verb = lawful_answer run line c h in
    let accepted : refusal_of run (event.Verb c verb.p verb.m) ≡ None = subst (λ l. refusal_of run l ≡ None) verb.line_is verb.accepted in
    let time = in_time run (event.Verb c verb.p verb.m) accepted in
    let safe = sound.each c time.known in
    let held = safe.held (omega (arith, verb.lasts)) in
    let near : abs_diff verb.p verb.m ≤ terms.error = subst (λ (t : Agreed). abs_diff verb.p verb.m ≤ t.error) sound.terms_is time.near in
    omega (arith, held, safe.over fenced, time.master, near, verb.lasts)

-- the state behind the line at which a client was fenced
fenced_at : (terms : Agreed) (lines : List LeaseLine) (c n : ℕ) → slice_get (answers terms lines) n ≡ Some (told.Fenced c) → IsClient c × (is_fenced (state_at terms lines (suc n)).book c ≡ true)
fenced_at terms lines c n h =
    let at = line_of terms lines n (told.Fenced c) h (λ e. cc) in
    let fencing = fenced_answer (state_at terms lines n) at.line c at.answered in
    let then = fenced_then (state_at terms lines n) at.line c (whole_at terms lines n) fencing in
    (then.0, ap (λ (r : Run). is_fenced r.book c) (state-next terms lines n at.line at.there) ∙ then.1)

pub fenced_later : (terms : Agreed) (lines : List LeaseLine) (c m n : ℕ) → slice_get (answers terms lines) m ≡ Some (told.Fenced c) → m < n → is_fenced (state_at terms lines n).book c ≡ true
fenced_later terms lines c m n h lt =
    let fenced = fenced_at terms lines c m h in
    (grows_at terms lines (suc m) n c (omega arith) fenced.0).fenced fenced.1

pub no_lawful_after : (terms : Agreed) (lines : List LeaseLine) (c i j : ℕ) → AreTerms terms → slice_get (answers terms lines) i ≡ Some (told.Fenced c) → i < j → slice_get (answers terms lines) j ≡ Some (told.Lawful c) → ⊥
no_lawful_after terms lines c i j are h lt verb =
    let at = line_of terms lines j (told.Lawful c) verb (λ e. cc) in
    unlawful terms (state_at terms lines j) at.line c (sound_at terms lines j are) (fenced_later terms lines c i j h lt) at.answered

-- lawful verbs stand before the fencing
lawful_before : (terms : Agreed) (lines : List LeaseLine) (c i j : ℕ) → AreTerms terms → slice_get (answers terms lines) i ≡ Some (told.Fenced c) → slice_get (answers terms lines) j ≡ Some (told.Lawful c) → j < i
lawful_before terms lines c i j are fenced verb = elim (cases_lt j i) [
  | inl before ↦ before
  | inr le ↦ elim (cases_eq j i) [
    | inl same ↦
        let two : told.Fenced c ≡ told.Lawful c = same_at (answers terms lines) i (told.Fenced c) (told.Lawful c) fenced (subst (λ n. slice_get (answers terms lines) n ≡ Some (told.Lawful c)) same verb) in
        cc
    | inr other ↦ absurd (no_lawful_after terms lines c i j are fenced (omega (arith, le, other)) verb)
  ]
]

-- at a moment at which a recovery may begin, the client's clock is past all its lawful verbs
pub recovery_after : (terms : Agreed) (lines : List LeaseLine) (c i j p m : ℕ) (fence verb : LeaseLine) → AreTerms terms → IsAnswered terms lines i fence (told.Fenced c) → IsAnswered terms lines j verb (told.Lawful c) → master_clock fence ≤ m → abs_diff p m ≤ terms.error → (j < i) × (client_clock verb < p)
recovery_after terms lines c i j p m fence verb are at_i at_j later near =
    let before = lawful_before terms lines c i j are at_i.answer_there at_j.answer_there in
    let fencing = fenced_answer (state_at terms lines i) fence c (answered_at terms lines i fence (told.Fenced c) at_i.line_there at_i.answer_there) in
    let lawful = lawful_answer (state_at terms lines j) verb c (answered_at terms lines j verb (told.Lawful c) at_j.line_there at_j.answer_there) in
    let known = (fenced_then (state_at terms lines i) fence c (whole_at terms lines i) fencing).0 in
    let grows = grows_at terms lines j i c (omega (arith, before)) known in
    let safe = (sound_at terms lines i are).each c known in
    let lasts = lawful.lasts in
    let held = safe.held (omega (arith, grows.until, lasts)) in
    let clock_verb : client_clock verb ≡ lawful.p = ap client_clock lawful.line_is in
    let clock_fence : master_clock fence ≡ fencing.m = ap master_clock fencing.line_is in
    let over = fencing.over in
    let until = grows.until in
    (before, omega (arith, held, over, lasts, until, clock_verb, clock_fence, later, near))
