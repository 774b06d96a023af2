-- What an answer tells of its line, and of the state before it.
use Rattle.std.proofs.Common.{◌≡◌, ℕ, ◌≤◌, ◌<◌, Bool, true, false, if◌then◌else◌, ◌⊎◌, inl, inr, nat_lt, Option, Some, None, refl, sym, ◌∙◌, ap, subst, arith}
use Rattle.std.proofs.lemmas.Bool.{cases_eq}
use Rattle.std.proofs.lemmas.Bool.Decides.{nat_tests}
use Rattle.lease_core.specs.declared.lease_lines.LeaseLine.{LeaseLine}
use Rattle.lease_core.specs.declared.lease_lines.LeaseLine.TheVariants as event
use Rattle.lease_core.specs.declared.answering.LeaseAnswer.{LeaseAnswer}
use Rattle.lease_core.specs.declared.answering.LeaseAnswer.TheVariants as told
use Rattle.lease_core.specs.declared.answering.LeaseRefusal.{LeaseRefusal}
use Rattle.lease_core.specs.Book.{IsClient, expiry_of, is_fenced, longer_expiry}
use Rattle.lease_core.specs.Line.{client_of}
use Rattle.lease_core.specs.Run.{Run, accepted, accepted_answer, answer_of, answer_unless, member_of, refusal_of, run_after, run_unless}
use Rattle.lease_core.proofs.AcceptedLemmas.{InTime, IsWhole, in_time, grant_accepted, fence_accepted, own_expiry, own_fenced, expiry-own, expiry-other, fenced-own}

chosen : (t : Bool) (a b c : LeaseAnswer) → (if t then a else b) ≡ c → ((t ≡ true) × (a ≡ c)) ⊎ ((t ≡ false) × (b ≡ c))
chosen true a b c h = inl (refl, h)
chosen false a b c h = inr (refl, h)

below : (a b : ℕ) → nat_lt a b ≡ true → a < b
below a b h = grind (arith, nat_tests)

not_below : (a b : ℕ) → nat_lt a b ≡ false → b ≤ a
not_below a b h = grind (arith, nat_tests)

-- ---- fenced

pub record IsFencing (run : Run) (line : LeaseLine) (c : ℕ) : Type 0 where
  pub p : ℕ
  pub m : ℕ
  pub line_is : line ≡ event.Fence c p m
  pub accepted : refusal_of run line ≡ None
  pub over : expiry_of run.book c ≤ m

fencing : (run : Run) (line : LeaseLine) (c : ℕ) (why : Option LeaseRefusal) → refusal_of run line ≡ why → answer_unless why (accepted_answer run line) ≡ told.Fenced c → IsFencing run line c
fencing run line c (Some why) h a = cc
fencing run (event.Ask client p m) c None h a = cc
fencing run (event.Grant client ask p m) c None h a = cc
fencing run (event.Take client ask p m) c None h a = cc
fencing run (event.Verb client p m) c None h a = elim (chosen (nat_lt p (member_of run client).holder.until) (told.Lawful client) (told.Unlawful client) (told.Fenced c) a) [ inl lasts ↦ let x = lasts.1 in cc | inr ended ↦ let x = ended.1 in cc ]
fencing run (event.Fence client p m) c None h a = elim (chosen (nat_lt m (expiry_of run.book client)) (told.Early client (expiry_of run.book client)) (told.Fenced client) (told.Fenced c) a) [
  | inl early ↦ let x = early.1 in cc
  | inr over ↦
      let x = over.1 in
      let same : client ≡ c = cc in
      record { p = p; m = m; line_is = ap (λ d. event.Fence d p m) same; accepted = h; over = subst (λ d. expiry_of run.book d ≤ m) same (not_below m (expiry_of run.book client) over.0) }
]

pub fenced_answer : (run : Run) (line : LeaseLine) (c : ℕ) → answer_of run line ≡ told.Fenced c → IsFencing run line c
fenced_answer run line c h = fencing run line c (refusal_of run line) refl h

-- ---- lawful

pub record IsLawfulVerb (run : Run) (line : LeaseLine) (c : ℕ) : Type 0 where
  pub p : ℕ
  pub m : ℕ
  pub line_is : line ≡ event.Verb c p m
  pub accepted : refusal_of run line ≡ None
  pub lasts : p < (member_of run c).holder.until

lawful_verb : (run : Run) (line : LeaseLine) (c : ℕ) (why : Option LeaseRefusal) → refusal_of run line ≡ why → answer_unless why (accepted_answer run line) ≡ told.Lawful c → IsLawfulVerb run line c
lawful_verb run line c (Some why) h a = cc
lawful_verb run (event.Ask client p m) c None h a = cc
lawful_verb run (event.Grant client ask p m) c None h a = cc
lawful_verb run (event.Take client ask p m) c None h a = cc
lawful_verb run (event.Verb client p m) c None h a = elim (chosen (nat_lt p (member_of run client).holder.until) (told.Lawful client) (told.Unlawful client) (told.Lawful c) a) [
  | inl still ↦
      let x = still.1 in
      let same : client ≡ c = cc in
      record { p = p; m = m; line_is = ap (λ d. event.Verb d p m) same; accepted = h; lasts = subst (λ d. p < (member_of run d).holder.until) same (below p (member_of run client).holder.until still.0) }
  | inr ended ↦ let x = ended.1 in cc
]
lawful_verb run (event.Fence client p m) c None h a = elim (chosen (nat_lt m (expiry_of run.book client)) (told.Early client (expiry_of run.book client)) (told.Fenced client) (told.Lawful c) a) [ inl early ↦ let x = early.1 in cc | inr over ↦ let x = over.1 in cc ]

pub lawful_answer : (run : Run) (line : LeaseLine) (c : ℕ) → answer_of run line ≡ told.Lawful c → IsLawfulVerb run line c
lawful_answer run line c h = lawful_verb run line c (refusal_of run line) refl h

-- ---- granted

pub record IsGranting (run : Run) (line : LeaseLine) (c ask x : ℕ) : Type 0 where
  pub p : ℕ
  pub m : ℕ
  pub line_is : line ≡ event.Grant c ask p m
  pub accepted : refusal_of run line ≡ None
  pub expiry : longer_expiry run.book c m ≡ x

granting : (run : Run) (line : LeaseLine) (c ask x : ℕ) (why : Option LeaseRefusal) → refusal_of run line ≡ why → answer_unless why (accepted_answer run line) ≡ told.Granted c ask x → IsGranting run line c ask x
granting run line c ask x (Some why) h a = cc
granting run (event.Ask client p m) c ask x None h a = cc
granting run (event.Grant client k p m) c ask x None h a =
    let same : client ≡ c = cc in
    let same_ask : k ≡ ask = cc in
    let expiry : longer_expiry run.book client m ≡ x = cc in
    record { p = p; m = m; line_is = ap (λ d. event.Grant d k p m) same ∙ ap (λ j. event.Grant c j p m) same_ask; accepted = h; expiry = subst (λ d. longer_expiry run.book d m ≡ x) same expiry }
granting run (event.Take client k p m) c ask x None h a = cc
granting run (event.Verb client p m) c ask x None h a = elim (chosen (nat_lt p (member_of run client).holder.until) (told.Lawful client) (told.Unlawful client) (told.Granted c ask x) a) [ inl lasts ↦ let y = lasts.1 in cc | inr ended ↦ let y = ended.1 in cc ]
granting run (event.Fence client p m) c ask x None h a = elim (chosen (nat_lt m (expiry_of run.book client)) (told.Early client (expiry_of run.book client)) (told.Fenced client) (told.Granted c ask x) a) [ inl early ↦ let y = early.1 in cc | inr over ↦ let y = over.1 in cc ]

pub granted_answer : (run : Run) (line : LeaseLine) (c ask x : ℕ) → answer_of run line ≡ told.Granted c ask x → IsGranting run line c ask x
granted_answer run line c ask x h = granting run line c ask x (refusal_of run line) refl h

-- ---- what the state is after it

pub run_accepted : (run : Run) (line : LeaseLine) → refusal_of run line ≡ None → run_after run line ≡ accepted run line
run_accepted run line h = ap (λ why. run_unless why run (accepted run line)) h

-- a client that was fenced is fenced
pub fenced_then : (run : Run) (line : LeaseLine) (c : ℕ) → IsWhole run → IsFencing run line c → IsClient c × (is_fenced (run_after run line).book c ≡ true)
fenced_then run line c whole f =
    let accepted' : refusal_of run (event.Fence c f.p f.m) ≡ None = subst (λ l. refusal_of run l ≡ None) f.line_is f.accepted in
    let time = in_time run (event.Fence c f.p f.m) accepted' in
    let not_fenced = fence_accepted run c f.p f.m time.kind in
    let test : nat_lt f.m (expiry_of run.book c) ≡ false = let over = f.over in grind (arith, nat_tests) in
    let own = fenced-own run.book (event.Fence c f.p f.m) whole.fenced time.known in
    let is : own_fenced (expiry_of run.book c) (is_fenced run.book c) (event.Fence c f.p f.m) ≡ true = rw (not_fenced, test) refl in
    let state : run_after run line ≡ accepted run (event.Fence c f.p f.m) = ap (run_after run) f.line_is ∙ run_accepted run (event.Fence c f.p f.m) accepted' in
    (time.known, ap (λ (r : Run). is_fenced r.book c) state ∙ own ∙ is)

-- a lease that was granted is in the book
pub granted_then : (run : Run) (line : LeaseLine) (c ask x : ℕ) → IsWhole run → IsGranting run line c ask x → IsClient c × (expiry_of (run_after run line).book c ≡ x)
granted_then run line c ask x whole g =
    let accepted' : refusal_of run (event.Grant c ask g.p g.m) ≡ None = subst (λ l. refusal_of run l ≡ None) g.line_is g.accepted in
    let time = in_time run (event.Grant c ask g.p g.m) accepted' in
    let facts = grant_accepted run c ask g.p g.m time.kind in
    let own = expiry-own run.book (event.Grant c ask g.p g.m) whole.expiries time.known in
    let is : own_expiry run.book.terms.length (expiry_of run.book c) (is_fenced run.book c) (event.Grant c ask g.p g.m) ≡ longer_expiry run.book c g.m = rw facts.1 refl in
    let state : run_after run line ≡ accepted run (event.Grant c ask g.p g.m) = ap (run_after run) g.line_is ∙ run_accepted run (event.Grant c ask g.p g.m) accepted' in
    (time.known, ap (λ (r : Run). expiry_of r.book c) state ∙ own ∙ is ∙ g.expiry)

-- ---- an expiry changes by a grant alone

expiry_own_told : (run : Run) (line : LeaseLine) → IsWhole run → InTime run line → (expiry_of (accepted run line).book (client_of line) ≡ expiry_of run.book (client_of line)) ⊎ ((ask : ℕ) × (accepted_answer run line ≡ told.Granted (client_of line) ask (expiry_of (accepted run line).book (client_of line))))
expiry_own_told run (event.Ask client p m) whole time = inl refl
expiry_own_told run (event.Grant client ask p m) whole time =
    let facts = grant_accepted run client ask p m time.kind in
    let is : own_expiry run.book.terms.length (expiry_of run.book client) (is_fenced run.book client) (event.Grant client ask p m) ≡ longer_expiry run.book client m = rw facts.1 refl in
    inr (ask, ap (told.Granted client ask) (sym (expiry-own run.book (event.Grant client ask p m) whole.expiries time.known ∙ is)))
expiry_own_told run (event.Take client ask p m) whole time = inl refl
expiry_own_told run (event.Verb client p m) whole time = inl refl
expiry_own_told run (event.Fence client p m) whole time = inl (expiry-own run.book (event.Fence client p m) whole.expiries time.known)

expiry_unless : (run : Run) (line : LeaseLine) (d : ℕ) (why : Option LeaseRefusal) → refusal_of run line ≡ why → IsWhole run → IsClient d → (expiry_of (run_unless why run (accepted run line)).book d ≡ expiry_of run.book d) ⊎ ((ask : ℕ) × (answer_unless why (accepted_answer run line) ≡ told.Granted d ask (expiry_of (run_unless why run (accepted run line)).book d)))
expiry_unless run line d (Some why) h whole is_d = inl refl
expiry_unless run line d None h whole is_d =
    let time = in_time run line h in
    elim (cases_eq (client_of line) d) [
      | inl same ↦ subst (λ x. (expiry_of (accepted run line).book x ≡ expiry_of run.book x) ⊎ ((ask : ℕ) × (accepted_answer run line ≡ told.Granted x ask (expiry_of (accepted run line).book x)))) same (expiry_own_told run line whole time)
      | inr other ↦ inl (expiry-other run.book line d time.known is_d other)
    ]

pub expiry_told : (run : Run) (line : LeaseLine) (d : ℕ) → IsWhole run → IsClient d → (expiry_of (run_after run line).book d ≡ expiry_of run.book d) ⊎ ((ask : ℕ) × (answer_of run line ≡ told.Granted d ask (expiry_of (run_after run line).book d)))
expiry_told run line d whole is_d = expiry_unless run line d (refusal_of run line) refl whole is_d
