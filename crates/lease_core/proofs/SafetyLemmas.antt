-- What is true after any lines: a client may act no longer than its leases last by the master's clock, with the clocks'
-- error left off, and a fenced client has no lease that lasts.
use Rattle.std.proofs.Common.{◌≡◌, ◌≢◌, ℕ, ◌+◌, ◌-◌, ◌<◌, ◌≤◌, Bool, true, false, if◌then◌else◌, inl, inr, nat_lt, nat_le, List, [], ◌∷◌, ◌++◌, length, get_or, set, Option, Some, None, refl, sym, ◌∙◌, ap, subst, arith}
use Rattle.std.proofs.lemmas.Bool.{cases_lt, cases_eq}
use Rattle.std.proofs.lemmas.Bool.Decides.{nat_tests}
use Rattle.std.proofs.lemmas.List.{get_or-set_same, get_or-set_other, get_or_append_left, get_or_push, length_push, length-set, length-replicate, get_or-replicate}
use Rattle.std.specs.Int.{abs_diff}
use Rattle.std.specs.Prelude.{max}
use Rattle.lease_core.specs.declared.granting.TheConstants.{CLIENTS}
use Rattle.lease_core.specs.declared.lease_lines.LeaseLine.{LeaseLine}
use Rattle.lease_core.specs.declared.lease_lines.LeaseLine.TheVariants as event
use Rattle.lease_core.specs.declared.answering.LeaseRefusal.{LeaseRefusal}
use Rattle.lease_core.specs.declared.members.Ask.{Ask}
use Rattle.lease_core.specs.Terms.{Agreed, AreTerms}
use Rattle.lease_core.specs.Book.{Booked, IsClient, place_of, expiry_of, is_fenced, after_grant, after_fence}
use Rattle.lease_core.specs.Holder.{Held, end_of}
use Rattle.lease_core.specs.Line.{client_of, master_clock}
use Rattle.lease_core.specs.Run.{Run, Member, accepted, ask_of, asking, book_after, granting, has_ask, member_after, member_of, new_member, no_ask, opening, passing, refusal_of, run_after, run_along, run_unless, taking}
use Rattle.lease_core.proofs.AcceptedLemmas.{InTime, IsWhole, and_true, in_time, grant_accepted, take_accepted, fence_accepted, member-own, member-other, own_expiry, own_fenced, expiry-own, expiry-other, fenced-own, fenced-other}

-- of a client, at a moment of the master's clock
pub record IsSafe (terms : Agreed) (clock : ℕ) (member : Member) (expiry : ℕ) (fenced : Bool) : Type 0 where
  pub holder : member.holder.terms ≡ terms
  -- no ask comes out of the future
  pub asked : (k : ℕ) → k < length member.asks → (get_or member.asks k no_ask).at ≤ clock + terms.error
  -- a granted ask is over by the book
  pub granted : (k : ℕ) → k < length member.asks → (get_or member.asks k no_ask).granted ≡ true → (get_or member.asks k no_ask).at + terms.length ≤ expiry + terms.error
  -- and so is what is held
  pub held : 0 < member.holder.until → member.holder.until + terms.error ≤ expiry
  pub over : fenced ≡ true → expiry ≤ clock

-- ---- elements of changed lists

at_push : (P : Ask → Type 0) (xs : List Ask) (y : Ask) (k : ℕ) → k < length (xs ++ y ∷ []) → (k < length xs → P (get_or xs k no_ask)) → P y → P (get_or (xs ++ y ∷ []) k no_ask)
at_push P xs y k in_list old new = elim (cases_lt k (length xs)) [
  | inl before ↦ subst P (sym (get_or_append_left xs (y ∷ []) no_ask k before)) (old before)
  | inr last ↦ subst P (sym (get_or_push xs y no_ask k (omega (arith, length_push xs y, in_list)))) new
]

at_set : (P : Ask → Type 0) (xs : List Ask) (i k : ℕ) (y : Ask) → i < length xs → (k ≡ i → P y) → (k ≢ i → P (get_or xs k no_ask)) → P (get_or (set xs i y) k no_ask)
at_set P xs i k y in_list new old = elim (cases_eq k i) [
  | inl same ↦ rw same (subst P (sym (get_or-set_same xs i y no_ask in_list)) (new same))
  | inr other ↦ subst P (sym (get_or-set_other xs i k y no_ask other)) (old other)
]

is_ask : (member : Member) (ask : ℕ) → has_ask member ask ≡ true → ask - 1 < length member.asks
is_ask member ask has =
    let parts = and_true (nat_lt 0 ask) (nat_le ask (length member.asks)) has in
    let low : nat_lt 0 ask ≡ true = parts.0 in
    let high : nat_le ask (length member.asks) ≡ true = parts.1 in
    grind (arith, nat_tests)

held_more : (terms : Agreed) (holder : Held) (expiry at : ℕ) → AreTerms terms → holder.terms ≡ terms → (0 < holder.until → holder.until + terms.error ≤ expiry) → at + terms.length ≤ expiry + terms.error → 0 < max holder.until (end_of holder.terms at) → max holder.until (end_of holder.terms at) + terms.error ≤ expiry
held_more terms holder expiry at are same held bound some =
    let exceeds = are.exceeds in
    let end : end_of holder.terms at ≡ end_of terms at = ap (λ t. end_of t at) same in
    let new : end_of holder.terms at + terms.error ≤ expiry = omega (arith, end, exceeds, bound) in
    elim (cases_lt 0 holder.until) [
      | inl old ↦ let kept = held old in omega (arith, kept, new)
      | inr none ↦ omega (arith, none, new)
    ]

-- ---- each kind of line keeps it

module _ (terms : Agreed) (clock now : ℕ) (member : Member) (expiry : ℕ) (fenced : Bool) (are : AreTerms terms) (safe : IsSafe terms clock member expiry fenced) (later : clock ≤ now) where
  -- what is known of the client may be about its clock alone
  pub safe-later : IsSafe terms now member expiry fenced
  safe-later = record {
    holder = safe.holder;
    asked = λ k in_list. omega (arith, safe.asked k in_list);
    granted = safe.granted;
    held = safe.held;
    over = λ is. omega (arith, safe.over is);
  }

  pub safe-passing : (p : ℕ) → IsSafe terms now (passing member p) expiry fenced
  safe-passing p = record {
    holder = safe.holder;
    asked = safe-later.asked;
    granted = safe.granted;
    held = safe.held;
    over = safe-later.over;
  }

  pub safe-asking : (p : ℕ) → abs_diff p now ≤ terms.error → IsSafe terms now (asking member p) expiry fenced
  safe-asking p near = record {
    holder = safe.holder;
    asked = λ k in_list. at_push (λ a. a.at ≤ now + terms.error) member.asks (record { at = p; granted = false }) k in_list (λ old. safe-later.asked k old) (omega (arith, near));
    granted = λ k in_list. at_push (λ a. a.granted ≡ true → a.at + terms.length ≤ expiry + terms.error) member.asks (record { at = p; granted = false }) k in_list (λ old. safe.granted k old) (λ is. cc);
    held = safe.held;
    over = safe-later.over;
  }

  pub safe-granting : (ask p : ℕ) → has_ask member ask ≡ true → fenced ≡ false → IsSafe terms now (granting member ask p) (max expiry (now + terms.length)) fenced
  safe-granting ask p has not_fenced =
      let place = is_ask member ask has in
      let new : Ask = record { at = (ask_of member ask).at; granted = true } in
      let size = length-set member.asks (ask - 1) new in
      let before = safe.asked (ask - 1) place in
      record {
        holder = safe.holder;
        asked = λ k in_list. at_set (λ a. a.at ≤ now + terms.error) member.asks (ask - 1) k new place (λ same. safe-later.asked (ask - 1) place) (λ other. safe-later.asked k (omega (arith, size, in_list)));
        granted = λ k in_list. at_set (λ a. a.granted ≡ true → a.at + terms.length ≤ max expiry (now + terms.length) + terms.error) member.asks (ask - 1) k new place (λ same is. omega (arith, before, later)) (λ other is. let old = safe.granted k (omega (arith, size, in_list)) is in omega (arith, old));
        held = λ some. let old = safe.held some in omega (arith, old);
        over = λ is. cc;
      }

  pub safe-taking : (ask p : ℕ) → has_ask member ask ≡ true → (ask_of member ask).granted ≡ true → IsSafe terms now (taking member ask p) expiry fenced
  safe-taking ask p has is_granted =
      let place = is_ask member ask has in
      let bound = safe.granted (ask - 1) place is_granted in
      record {
        holder = safe.holder;
        asked = safe-later.asked;
        granted = safe.granted;
        held = λ some. held_more terms member.holder expiry (ask_of member ask).at are safe.holder safe.held bound some;
        over = safe-later.over;
      }

  pub safe-fencing : (p : ℕ) → expiry ≤ now → IsSafe terms now (passing member p) expiry true
  safe-fencing p over = record {
    holder = safe.holder;
    asked = safe-later.asked;
    granted = safe.granted;
    held = safe.held;
    over = λ is. over;
  }

-- ---- a run

pub record IsSound (terms : Agreed) (run : Run) : Type 0 where
  pub whole : IsWhole run
  pub terms_is : run.terms ≡ terms
  pub book_is : run.book.terms ≡ terms
  pub each : (d : ℕ) → IsClient d → IsSafe terms run.clock (member_of run d) (expiry_of run.book d) (is_fenced run.book d)

book_terms : (book : Booked) (c m : ℕ) (f e : Bool) → is_fenced book c ≡ f → nat_lt m (expiry_of book c) ≡ e → ((after_grant book c m).terms ≡ book.terms) × ((after_fence book c m).terms ≡ book.terms)
book_terms book c m true e h early = rw h (refl, refl)
book_terms book c m false true h early = rw (h, early) (refl, refl)
book_terms book c m false false h early = rw (h, early) (refl, refl)

book_after-terms : (book : Booked) (line : LeaseLine) → (book_after book line).terms ≡ book.terms
book_after-terms book (event.Ask client p m) = refl
book_after-terms book (event.Grant client ask p m) = (book_terms book client m (is_fenced book client) (nat_lt m (expiry_of book client)) refl refl).0
book_after-terms book (event.Take client ask p m) = refl
book_after-terms book (event.Verb client p m) = refl
book_after-terms book (event.Fence client p m) = (book_terms book client m (is_fenced book client) (nat_lt m (expiry_of book client)) refl refl).1

grant_sizes : (book : Booked) (c m : ℕ) (f : Bool) → is_fenced book c ≡ f → (length (after_grant book c m).expiries ≡ length book.expiries) × (length (after_grant book c m).fenced ≡ length book.fenced)
grant_sizes book c m true h = rw h (refl, refl)
grant_sizes book c m false h = rw h (length-set book.expiries (place_of c) _, refl)

fence_sizes : (book : Booked) (c m : ℕ) (f e : Bool) → is_fenced book c ≡ f → nat_lt m (expiry_of book c) ≡ e → (length (after_fence book c m).expiries ≡ length book.expiries) × (length (after_fence book c m).fenced ≡ length book.fenced)
fence_sizes book c m true e h early = rw h (refl, refl)
fence_sizes book c m false true h early = rw (h, early) (refl, refl)
fence_sizes book c m false false h early = rw (h, early) (refl, length-set book.fenced (place_of c) true)

book_sizes : (book : Booked) (line : LeaseLine) → (length (book_after book line).expiries ≡ length book.expiries) × (length (book_after book line).fenced ≡ length book.fenced)
book_sizes book (event.Ask client p m) = (refl, refl)
book_sizes book (event.Grant client ask p m) = grant_sizes book client m (is_fenced book client) refl
book_sizes book (event.Take client ask p m) = (refl, refl)
book_sizes book (event.Verb client p m) = (refl, refl)
book_sizes book (event.Fence client p m) = fence_sizes book client m (is_fenced book client) (nat_lt m (expiry_of book client)) refl refl

pub whole_after : (run : Run) (line : LeaseLine) → IsWhole run → IsWhole (accepted run line)
whole_after run line whole = record {
  members = length-set run.members (place_of (client_of line)) _ ∙ whole.members;
  expiries = (book_sizes run.book line).0 ∙ whole.expiries;
  fenced = (book_sizes run.book line).1 ∙ whole.fenced;
}

-- the client of an accepted line
safe_own : (terms : Agreed) (run : Run) (line : LeaseLine) → AreTerms terms → IsSound terms run → InTime run line → IsSafe terms (master_clock line) (member_after (member_of run (client_of line)) line) (own_expiry terms.length (expiry_of run.book (client_of line)) (is_fenced run.book (client_of line)) line) (own_fenced (expiry_of run.book (client_of line)) (is_fenced run.book (client_of line)) line)
safe_own terms run (event.Ask client p m) are sound time =
    safe-asking terms run.clock m (member_of run client) (expiry_of run.book client) (is_fenced run.book client) are (sound.each client time.known) time.master p (subst (λ (t : Agreed). abs_diff p m ≤ t.error) sound.terms_is time.near)
safe_own terms run (event.Grant client ask p m) are sound time =
    let facts = grant_accepted run client ask p m time.kind in
    let new = safe-granting terms run.clock m (member_of run client) (expiry_of run.book client) (is_fenced run.book client) are (sound.each client time.known) time.master ask p facts.0 facts.1 in
    let is : (if is_fenced run.book client then expiry_of run.book client else max (expiry_of run.book client) (m + terms.length)) ≡ max (expiry_of run.book client) (m + terms.length) = rw facts.1 refl in
    subst (λ x. IsSafe terms m (granting (member_of run client) ask p) x (is_fenced run.book client)) (sym is) new
safe_own terms run (event.Take client ask p m) are sound time =
    let facts = take_accepted run client ask p m time.kind in
    safe-taking terms run.clock m (member_of run client) (expiry_of run.book client) (is_fenced run.book client) are (sound.each client time.known) time.master ask p facts.0 facts.1
safe_own terms run (event.Verb client p m) are sound time =
    safe-passing terms run.clock m (member_of run client) (expiry_of run.book client) (is_fenced run.book client) are (sound.each client time.known) time.master p
safe_own terms run (event.Fence client p m) are sound time =
    let not_fenced = fence_accepted run client p m time.kind in
    let passed = safe-passing terms run.clock m (member_of run client) (expiry_of run.book client) (is_fenced run.book client) are (sound.each client time.known) time.master p in
    elim (cases_lt m (expiry_of run.book client)) [
      | inl early ↦
          let test : nat_lt m (expiry_of run.book client) ≡ true = grind (arith, nat_tests) in
          let is : (if is_fenced run.book client then is_fenced run.book client else (if nat_lt m (expiry_of run.book client) then is_fenced run.book client else true)) ≡ is_fenced run.book client = rw (not_fenced, test) refl in
          subst (IsSafe terms m (passing (member_of run client) p) (expiry_of run.book client)) (sym is) passed
      | inr over ↦
          let test : nat_lt m (expiry_of run.book client) ≡ false = grind (arith, nat_tests) in
          let is : (if is_fenced run.book client then is_fenced run.book client else (if nat_lt m (expiry_of run.book client) then is_fenced run.book client else true)) ≡ true = rw (not_fenced, test) refl in
          subst (IsSafe terms m (passing (member_of run client) p) (expiry_of run.book client)) (sym is) (safe-fencing terms run.clock m (member_of run client) (expiry_of run.book client) (is_fenced run.book client) are (sound.each client time.known) time.master p over)
    ]

safe_at : (terms : Agreed) (clock : ℕ) (member member' : Member) (expiry expiry' : ℕ) (fenced fenced' : Bool) → member' ≡ member → expiry' ≡ expiry → fenced' ≡ fenced → IsSafe terms clock member expiry fenced → IsSafe terms clock member' expiry' fenced'
safe_at terms clock member member' expiry expiry' fenced fenced' m e f safe =
    subst (λ x. IsSafe terms clock x expiry' fenced') (sym m) (subst (λ x. IsSafe terms clock member x fenced') (sym e) (subst (IsSafe terms clock member expiry) (sym f) safe))

safe_each : (terms : Agreed) (run : Run) (line : LeaseLine) → AreTerms terms → IsSound terms run → InTime run line → (d : ℕ) → IsClient d → IsSafe terms (master_clock line) (member_of (accepted run line) d) (expiry_of (book_after run.book line) d) (is_fenced (book_after run.book line) d)
safe_each terms run line are sound time d is_d = elim (cases_eq (client_of line) d) [
  | inl same ↦ subst (λ x. IsSafe terms (master_clock line) (member_of (accepted run line) x) (expiry_of (book_after run.book line) x) (is_fenced (book_after run.book line) x)) same
      (safe_at terms (master_clock line) _ _ _ _ _ _ (member-own run line sound.whole time.known)
      (expiry-own run.book line sound.whole.expiries time.known ∙ ap (λ (t : Agreed). own_expiry t.length (expiry_of run.book (client_of line)) (is_fenced run.book (client_of line)) line) sound.book_is)
      (fenced-own run.book line sound.whole.fenced time.known) (safe_own terms run line are sound time))
  | inr other ↦ safe_at terms (master_clock line) _ _ _ _ _ _ (member-other run line sound.whole time.known d is_d other) (expiry-other run.book line d time.known is_d other) (fenced-other run.book line d time.known is_d other)
      (safe-later terms run.clock (master_clock line) (member_of run d) (expiry_of run.book d) (is_fenced run.book d) are (sound.each d is_d) time.master)
]

sound_accepted : (terms : Agreed) (run : Run) (line : LeaseLine) → AreTerms terms → IsSound terms run → InTime run line → IsSound terms (accepted run line)
sound_accepted terms run line are sound time = record {
  whole = whole_after run line sound.whole;
  terms_is = sound.terms_is;
  book_is = book_after-terms run.book line ∙ sound.book_is;
  each = safe_each terms run line are sound time;
}

sound_unless : (terms : Agreed) (run : Run) (line : LeaseLine) (why : Option LeaseRefusal) → refusal_of run line ≡ why → AreTerms terms → IsSound terms run → IsSound terms (run_unless why run (accepted run line))
sound_unless terms run line None h are sound = sound_accepted terms run line are sound (in_time run line h)
sound_unless terms run line (Some why) h are sound = sound

-- a line keeps a run sound
pub sound_after : (terms : Agreed) (run : Run) (line : LeaseLine) → AreTerms terms → IsSound terms run → IsSound terms (run_after run line)
sound_after terms run line are sound = sound_unless terms run line (refusal_of run line) refl are sound

-- an opening is sound
pub sound_opening : (terms : Agreed) → IsSound terms (opening terms)
sound_opening terms = record {
  whole = record { members = length-replicate CLIENTS (new_member terms); expiries = length-replicate {A = ℕ} CLIENTS 0; fenced = length-replicate CLIENTS false };
  terms_is = refl;
  book_is = refl;
  each = λ d is_d. safe_at terms 0 (new_member terms) _ 0 _ false _ (get_or-replicate CLIENTS (place_of d) (new_member terms) (new_member terms) (omega arith)) (get_or-replicate {A = ℕ} CLIENTS (place_of d) 0 0 (omega arith)) (get_or-replicate CLIENTS (place_of d) false false (omega arith))
      (record {
        holder = refl;
        asked = λ k in_list. absurd (omega arith);
        granted = λ k in_list. absurd (omega arith);
        held = λ some. absurd (omega arith);
        over = λ is. omega arith;
      });
}

-- lines keep it sound
pub sound_along : (terms : Agreed) (run : Run) (lines : List LeaseLine) → AreTerms terms → IsSound terms run → IsSound terms (run_along run lines)
sound_along terms run [] are sound = sound
sound_along terms run (line ∷ lines) are sound = sound_along terms (run_after run line) lines are (sound_after terms run line are sound)
