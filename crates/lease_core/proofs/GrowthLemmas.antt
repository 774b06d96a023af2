-- What never goes back: clocks, expiries, until when a client may act, and being fenced.
use Rattle.std.proofs.Common.{◌≡◌, ◌≢◌, ℕ, ◌+◌, ◌≤◌, Bool, true, false, if◌then◌else◌, inl, inr, List, [], ◌∷◌, length, Option, Some, None, refl, sym, ◌∙◌, ap, subst, arith}
use Rattle.std.proofs.lemmas.Bool.{cases_eq}
use Rattle.std.proofs.lemmas.List.{length-replicate}
use Rattle.std.specs.Prelude.{max}
use Rattle.lease_core.specs.declared.granting.TheConstants.{CLIENTS}
use Rattle.lease_core.specs.declared.lease_lines.LeaseLine.{LeaseLine}
use Rattle.lease_core.specs.declared.lease_lines.LeaseLine.TheVariants.{Ask, Grant, Take, Verb, Fence}
use Rattle.lease_core.specs.declared.answering.LeaseRefusal.{LeaseRefusal}
use Rattle.lease_core.specs.Terms.{Agreed}
use Rattle.lease_core.specs.Book.{IsClient, expiry_of, is_fenced}
use Rattle.lease_core.specs.Line.{client_of, client_clock}
use Rattle.lease_core.specs.Run.{Member, Run, accepted, member_after, member_of, new_member, opening, refusal_of, run_after, run_along, run_unless}
use Rattle.lease_core.proofs.AcceptedLemmas.{InTime, IsWhole, in_time, member-own, member-other, own_expiry, own_fenced, expiry-own, expiry-other, fenced-own, fenced-other}
use Rattle.lease_core.proofs.SafetyLemmas.{whole_after}

pub record Grows (d : ℕ) (old new : Run) : Type 0 where
  pub clock : old.clock ≤ new.clock
  pub own : (member_of old d).clock ≤ (member_of new d).clock
  pub until : (member_of old d).holder.until ≤ (member_of new d).holder.until
  pub expiry : expiry_of old.book d ≤ expiry_of new.book d
  pub fenced : is_fenced old.book d ≡ true → is_fenced new.book d ≡ true

grows_not : (d : ℕ) (run : Run) → Grows d run run
grows_not d run = record { clock = omega arith; own = omega arith; until = omega arith; expiry = omega arith; fenced = λ is. is }

grows_twice : (d : ℕ) (a b c : Run) → Grows d a b → Grows d b c → Grows d a c
grows_twice d a b c x y = record {
  clock = omega (arith, x.clock, y.clock);
  own = omega (arith, x.own, y.own);
  until = omega (arith, x.until, y.until);
  expiry = omega (arith, x.expiry, y.expiry);
  fenced = λ is. y.fenced (x.fenced is);
}

until_own : (member : Member) (line : LeaseLine) → member.holder.until ≤ (member_after member line).holder.until
until_own member (Ask client p m) = omega arith
until_own member (Grant client ask p m) = omega arith
until_own member (Take client ask p m) = omega arith
until_own member (Verb client p m) = omega arith
until_own member (Fence client p m) = omega arith

pub clock_own : (member : Member) (line : LeaseLine) → (member_after member line).clock ≡ client_clock line
clock_own member (Ask client p m) = refl
clock_own member (Grant client ask p m) = refl
clock_own member (Take client ask p m) = refl
clock_own member (Verb client p m) = refl
clock_own member (Fence client p m) = refl

grant_grows : (fenced : Bool) (a b : ℕ) → a ≤ (if fenced then a else max a b)
grant_grows true a b = omega arith
grant_grows false a b = omega arith

expiry_own : (length expiry : ℕ) (fenced : Bool) (line : LeaseLine) → expiry ≤ own_expiry length expiry fenced line
expiry_own length expiry fenced (Ask client p m) = omega arith
expiry_own length expiry fenced (Grant client ask p m) = grant_grows fenced expiry (m + length)
expiry_own length expiry fenced (Take client ask p m) = omega arith
expiry_own length expiry fenced (Verb client p m) = omega arith
expiry_own length expiry fenced (Fence client p m) = omega arith

fenced_own : (expiry : ℕ) (line : LeaseLine) → own_fenced expiry true line ≡ true
fenced_own expiry (Ask client p m) = refl
fenced_own expiry (Grant client ask p m) = refl
fenced_own expiry (Take client ask p m) = refl
fenced_own expiry (Verb client p m) = refl
fenced_own expiry (Fence client p m) = refl

grows_own : (run : Run) (line : LeaseLine) → IsWhole run → InTime run line → Grows (client_of line) run (accepted run line)
grows_own run line whole time =
    let e = member-own run line whole time.known in
    let x = expiry-own run.book line whole.expiries time.known in
    let f = fenced-own run.book line whole.fenced time.known in
    record {
      clock = time.master;
      own = subst (λ (m : Member). (member_of run (client_of line)).clock ≤ m.clock) (sym e) (subst (λ c. (member_of run (client_of line)).clock ≤ c) (sym (clock_own (member_of run (client_of line)) line)) time.client);
      until = subst (λ (m : Member). (member_of run (client_of line)).holder.until ≤ m.holder.until) (sym e) (until_own (member_of run (client_of line)) line);
      expiry = subst (λ n. expiry_of run.book (client_of line) ≤ n) (sym x) (expiry_own run.book.terms.length (expiry_of run.book (client_of line)) (is_fenced run.book (client_of line)) line);
      fenced = λ is. f ∙ ap (λ b. own_fenced (expiry_of run.book (client_of line)) b line) is ∙ fenced_own (expiry_of run.book (client_of line)) line;
    }

grows_other : (d : ℕ) (run : Run) (line : LeaseLine) → IsWhole run → InTime run line → IsClient d → client_of line ≢ d → Grows d run (accepted run line)
grows_other d run line whole time is_d other =
    let e = member-other run line whole time.known d is_d other in
    let x = expiry-other run.book line d time.known is_d other in
    let f = fenced-other run.book line d time.known is_d other in
    record {
      clock = time.master;
      own = subst (λ (m : Member). (member_of run d).clock ≤ m.clock) (sym e) (omega arith);
      until = subst (λ (m : Member). (member_of run d).holder.until ≤ m.holder.until) (sym e) (omega arith);
      expiry = omega (arith, x);
      fenced = λ is. f ∙ is;
    }

grows_accepted : (d : ℕ) (run : Run) (line : LeaseLine) → IsWhole run → InTime run line → IsClient d → Grows d run (accepted run line)
grows_accepted d run line whole time is_d = elim (cases_eq (client_of line) d) [
  | inl same ↦ subst (λ x. Grows x run (accepted run line)) same (grows_own run line whole time)
  | inr other ↦ grows_other d run line whole time is_d other
]

grows_unless : (d : ℕ) (run : Run) (line : LeaseLine) (why : Option LeaseRefusal) → refusal_of run line ≡ why → IsWhole run → IsClient d → Grows d run (run_unless why run (accepted run line)) × IsWhole (run_unless why run (accepted run line))
grows_unless d run line None h whole is_d = (grows_accepted d run line whole (in_time run line h) is_d, whole_after run line whole)
grows_unless d run line (Some why) h whole is_d = (grows_not d run, whole)

pub grows_after : (d : ℕ) (run : Run) (line : LeaseLine) → IsWhole run → IsClient d → Grows d run (run_after run line) × IsWhole (run_after run line)
grows_after d run line whole is_d = grows_unless d run line (refusal_of run line) refl whole is_d

pub grows_along : (d : ℕ) (run : Run) (lines : List LeaseLine) → IsWhole run → IsClient d → Grows d run (run_along run lines)
grows_along d run [] whole is_d = grows_not d run
grows_along d run (line ∷ lines) whole is_d =
    let one = grows_after d run line whole is_d in
    grows_twice d run (run_after run line) _ one.0 (grows_along d (run_after run line) lines one.1 is_d)

pub whole_along : (run : Run) (lines : List LeaseLine) → IsWhole run → IsWhole (run_along run lines)
whole_along run [] whole = whole
whole_along run (line ∷ lines) whole = whole_along (run_after run line) lines (grows_after 1 run line whole (omega arith, omega arith)).1

pub whole_opening : (terms : Agreed) → IsWhole (opening terms)
whole_opening terms = record { members = length-replicate CLIENTS (new_member terms); expiries = length-replicate {A = ℕ} CLIENTS 0; fenced = length-replicate CLIENTS false }
