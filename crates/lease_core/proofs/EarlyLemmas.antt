-- When a client is not fenced yet, and how the clocks of accepted lines go on.
use Rattle.std.proofs.Common.{◌≡◌, ℕ, zero, suc, ◌≤◌, ◌<◌, true, false, ◌⊎◌, inl, inr, nat_lt, List, [], ◌∷◌, take, Option, Some, None, refl, sym, ◌∙◌, ap, subst, arith}
use Rattle.std.proofs.lemmas.Bool.{cases_lt}
use Rattle.std.proofs.lemmas.Bool.Decides.{nat_tests}
use Rattle.std.proofs.lemmas.List.{get_or-replicate}
use Rattle.std.specs.Int.{abs_diff}
use Rattle.std.specs.Prelude.{IsTrue, slice_get}
use Rattle.lease_core.specs.declared.granting.TheConstants.{CLIENTS}
use Rattle.lease_core.specs.declared.lease_lines.LeaseLine.{LeaseLine}
use Rattle.lease_core.specs.declared.lease_lines.LeaseLine.TheVariants as event
use Rattle.lease_core.specs.declared.answering.LeaseAnswer.{LeaseAnswer}
use Rattle.lease_core.specs.declared.answering.LeaseAnswer.TheVariants as told
use Rattle.lease_core.specs.declared.answering.LeaseRefusal.{LeaseRefusal}
use Rattle.lease_core.specs.Terms.{Agreed}
use Rattle.lease_core.specs.Book.{IsClient, expiry_of, is_fenced, place_of}
use Rattle.lease_core.specs.Claims.{IsAnswered, GoOn, IsTooEarly, WasGranted, is_accepted}
use Rattle.lease_core.specs.Line.{client_of, client_clock, master_clock}
use Rattle.lease_core.specs.Run.{Member, Run, accepted, accepted_answer, answer_unless, member_of, opening, refusal_of, run_after, run_along, run_unless}
use Rattle.lease_core.proofs.AcceptedLemmas.{fence_accepted, in_time, member-own}
use Rattle.lease_core.proofs.AnswerLemmas.{expiry_told, granted_answer, granted_then, run_accepted}
use Rattle.lease_core.proofs.FencingLemmas.{fenced_later, grows_at, whole_at}
use Rattle.lease_core.proofs.FrontLemmas.{answer_at, answered_at, line_of, state-next, state_at}
use Rattle.lease_core.proofs.GrowthLemmas.{clock_own}

-- ---- what an expiry in the book tells

sooner : (terms : Agreed) (lines : List LeaseLine) (m n c x : ℕ) → m ≤ n → WasGranted terms lines m c x → WasGranted terms lines n c x
sooner terms lines m n c x le was = record { ask = was.ask; place = was.place; before = omega (arith, was.before, le); granted = was.granted }

-- an expiry was granted, but for 0
expiry_was_granted : (terms : Agreed) (lines : List LeaseLine) (c n : ℕ) → IsClient c → (each : (k : ℕ) → k < n → (line : LeaseLine) × (slice_get lines k ≡ Some line)) → (expiry_of (state_at terms lines n).book c ≡ 0) ⊎ WasGranted terms lines n c (expiry_of (state_at terms lines n).book c)
expiry_was_granted terms lines c zero is_c each = inl (get_or-replicate {A = ℕ} CLIENTS (place_of c) 0 0 (omega arith))
expiry_was_granted terms lines c (suc n) is_c each =
    let at = each n (omega arith) in
    let next = state-next terms lines n at.0 at.1 in
    let expiry_next : expiry_of (state_at terms lines (suc n)).book c ≡ expiry_of (run_after (state_at terms lines n) at.0).book c = ap (λ (r : Run). expiry_of r.book c) next in
    let rest = expiry_was_granted terms lines c n is_c (λ k lt. each k (omega arith)) in
    elim (expiry_told (state_at terms lines n) at.0 c (whole_at terms lines n) is_c) [
      | inl same ↦
          let is : expiry_of (state_at terms lines n).book c ≡ expiry_of (state_at terms lines (suc n)).book c = sym (expiry_next ∙ same) in
          elim rest [
            | inl none ↦ inl (sym is ∙ none)
            | inr was ↦ inr (subst (λ x. WasGranted terms lines (suc n) c x) is (sooner terms lines n (suc n) c _ (omega arith) was))
          ]
      | inr granted ↦ inr (record {
        ask = granted.0;
        place = n;
        before = omega arith;
        granted = answer_at terms lines n at.0 at.1 ∙ ap Some (granted.1 ∙ ap (told.Granted c granted.0) (sym expiry_next));
      })
    ]

-- a granted expiry is in the book
granted_in_book : (terms : Agreed) (lines : List LeaseLine) (c n x : ℕ) → WasGranted terms lines n c x → x ≤ expiry_of (state_at terms lines n).book c
granted_in_book terms lines c n x was =
    let at = line_of terms lines was.place (told.Granted c was.ask x) was.granted (λ e. cc) in
    let granting = granted_answer (state_at terms lines was.place) at.line c was.ask x at.answered in
    let after = granted_then (state_at terms lines was.place) at.line c was.ask x (whole_at terms lines was.place) granting in
    let next : expiry_of (state_at terms lines (suc was.place)).book c ≡ x = ap (λ (r : Run). expiry_of r.book c) (state-next terms lines was.place at.line at.there) ∙ after.1 in
    let grows = grows_at terms lines (suc was.place) n c (omega (arith, was.before)) after.0 in
    omega (arith, next, grows.expiry)

-- there are lines before a line
get-before : (lines : List LeaseLine) (n : ℕ) (line : LeaseLine) → slice_get lines n ≡ Some line → (k : ℕ) → k < n → (other : LeaseLine) × (slice_get lines k ≡ Some other)
get-before [] n line h k lt = cc
get-before (x ∷ lines) zero line h k lt = absurd (omega arith)
get-before (x ∷ lines) (suc n) line h zero lt = (x, refl)
get-before (x ∷ lines) (suc n) line h (suc k) lt = get-before lines n line h k (omega arith)

-- ---- early

pub record IsEarly (run : Run) (c m x : ℕ) : Type 0 where
  pub known : IsClient c
  pub below : m < x
  pub expiry : expiry_of run.book c ≡ x
  pub not_fenced : is_fenced run.book c ≡ false

early_if : (run : Run) (c p m x : ℕ) (why : Option LeaseRefusal) → refusal_of run (event.Fence c p m) ≡ why → answer_unless why (accepted_answer run (event.Fence c p m)) ≡ told.Early c x → IsEarly run c m x
early_if run c p m x (Some why) h a = cc
early_if run c p m x None h a =
    let time = in_time run (event.Fence c p m) h in
    elim (cases_lt m (expiry_of run.book c)) [
      | inl early ↦
          let test : nat_lt m (expiry_of run.book c) ≡ true = grind (arith, nat_tests) in
          let is : told.Early c (expiry_of run.book c) ≡ told.Early c x = rw test at a in
          let expiry : expiry_of run.book c ≡ x = cc in
          record { known = time.known; below = omega (arith, expiry, early); expiry = expiry; not_fenced = fence_accepted run c p m time.kind }
      | inr over ↦
          let test : nat_lt m (expiry_of run.book c) ≡ false = grind (arith, nat_tests) in
          let is : told.Fenced c ≡ told.Early c x = rw test at a in
          cc
    ]

early_in_book : (run : Run) (c p m : ℕ) (why : Option LeaseRefusal) → refusal_of run (event.Fence c p m) ≡ why → IsTrue (is_accepted (answer_unless why (accepted_answer run (event.Fence c p m)))) → m < expiry_of run.book c → answer_unless why (accepted_answer run (event.Fence c p m)) ≡ told.Early c (expiry_of run.book c)
early_in_book run c p m (Some why) h a early = cc
early_in_book run c p m None h a early =
    let test : nat_lt m (expiry_of run.book c) ≡ true = grind (arith, nat_tests) in
    rw test refl

module _ (terms : Agreed) (lines : List LeaseLine) (at c p m : ℕ) where
  pub early_is : (x : ℕ) → IsAnswered terms lines at (event.Fence c p m) (told.Early c x) → IsTooEarly terms lines at c m x
  early_is x is =
      let answered = answered_at terms lines at (event.Fence c p m) (told.Early c x) is.line_there is.answer_there in
      let early = early_if (state_at terms lines at) c p m x (refusal_of (state_at terms lines at) (event.Fence c p m)) refl answered in
      let expiry = early.expiry in
      let below = early.below in
      record {
        lasts = early.below;
        granted = elim (expiry_was_granted terms lines c at early.known (get-before lines at (event.Fence c p m) is.line_there)) [
          | inl none ↦ absurd (omega (arith, none, expiry, below))
          | inr was ↦ subst (λ y. WasGranted terms lines at c y) expiry was
        ];
        last = λ other was. let le = granted_in_book terms lines c at other was in omega (arith, le, expiry);
        not_fenced = λ place before fenced. let yet = fenced_later terms lines c place at fenced before in let not_yet = early.not_fenced in cc;
      }

  pub early_where_granted : (x : ℕ) (answer : LeaseAnswer) → IsAnswered terms lines at (event.Fence c p m) answer → IsTrue (is_accepted answer) → WasGranted terms lines at c x → m < x → (last : ℕ) × (answer ≡ told.Early c last)
  early_where_granted x answer is accepted' was below =
      let answered = answered_at terms lines at (event.Fence c p m) answer is.line_there is.answer_there in
      let le = granted_in_book terms lines c at x was in
      let early = early_in_book (state_at terms lines at) c p m (refusal_of (state_at terms lines at) (event.Fence c p m)) refl (subst (λ a. IsTrue (is_accepted a)) (sym answered) accepted') (omega (arith, le, below)) in
      (expiry_of (state_at terms lines at).book c, sym answered ∙ early)

-- ---- clocks

not_refused : (run : Run) (line : LeaseLine) (why : Option LeaseRefusal) → refusal_of run line ≡ why → IsTrue (is_accepted (answer_unless why (accepted_answer run line))) → refusal_of run line ≡ None
not_refused run line None h a = h
not_refused run line (Some why) h a = cc

accepted_at : (terms : Agreed) (lines : List LeaseLine) (n : ℕ) (line : LeaseLine) (answer : LeaseAnswer) → IsAnswered terms lines n line answer → IsTrue (is_accepted answer) → refusal_of (state_at terms lines n) line ≡ None
accepted_at terms lines n line answer is accepted' =
    let answered = answered_at terms lines n line answer is.line_there is.answer_there in
    not_refused (state_at terms lines n) line (refusal_of (state_at terms lines n) line) refl (subst (λ a. IsTrue (is_accepted a)) (sym answered) accepted')

terms_after : (run : Run) (line : LeaseLine) (why : Option LeaseRefusal) → refusal_of run line ≡ why → (run_unless why run (accepted run line)).terms ≡ run.terms
terms_after run line None h = refl
terms_after run line (Some why) h = refl

terms_along : (run : Run) (lines : List LeaseLine) → (run_along run lines).terms ≡ run.terms
terms_along run [] = refl
terms_along run (line ∷ lines) = terms_along (run_after run line) lines ∙ terms_after run line (refusal_of run line) refl

pub go_on : (terms : Agreed) (lines : List LeaseLine) (i j : ℕ) (first second : LeaseLine) (a b : LeaseAnswer) → IsAnswered terms lines i first a → IsAnswered terms lines j second b → i < j → IsTrue (is_accepted a) → IsTrue (is_accepted b) → GoOn terms first second
go_on terms lines i j first second a b at_i at_j lt yes_a yes_b =
    let none_i = accepted_at terms lines i first a at_i yes_a in
    let none_j = accepted_at terms lines j second b at_j yes_b in
    let time_i = in_time (state_at terms lines i) first none_i in
    let time_j = in_time (state_at terms lines j) second none_j in
    let next : state_at terms lines (suc i) ≡ accepted (state_at terms lines i) first = state-next terms lines i first at_i.line_there ∙ run_accepted (state_at terms lines i) first none_i in
    let grows = grows_at terms lines (suc i) j (client_of first) (omega arith) time_i.known in
    let master : (state_at terms lines (suc i)).clock ≡ master_clock first = ap (λ (r : Run). r.clock) next in
    let own : (member_of (state_at terms lines (suc i)) (client_of first)).clock ≡ client_clock first =
    ap (λ (r : Run). (member_of r (client_of first)).clock) next
    ∙ ap (λ (x : Member). x.clock) (member-own (state_at terms lines i) first (whole_at terms lines i) time_i.known)
    ∙ clock_own (member_of (state_at terms lines i) (client_of first)) first in
    record {
      near = subst (λ (t : Agreed). abs_diff (client_clock second) (master_clock second) ≤ t.error) (terms_along (opening terms) (take j lines)) time_j.near;
      master = omega (arith, master, grows.clock, time_j.master);
      client = λ same.
          let last : (member_of (state_at terms lines j) (client_of first)).clock ≤ client_clock second = subst (λ c. (member_of (state_at terms lines j) c).clock ≤ client_clock second) (sym same) time_j.client in
          omega (arith, own, grows.own, last);
    }
