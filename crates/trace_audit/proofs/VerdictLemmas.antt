-- Each output has one verdict.
use Rattle.std.proofs.Common.{◌≡◌, ℕ, ◌+◌, ◌<◌, inl, inr, List, length, refl, sym, ◌∙◌, ap, arith}
use Rattle.std.specs.Prelude.{slice_get, ◌↔◌, Result, Ok, Err, IfOk}
use Rattle.std.proofs.lemmas.Bool.{cases_lt}
use Rattle.std.proofs.lemmas.Option.{slice_get_within, same_Some}
use Rattle.map_model.specs.declared.entries.Entry.{Entry}
use Rattle.map_model.specs.Linear.{IsLinear}
use Rattle.map_model.specs.Trace.{Moment}
use Rattle.script_text.specs.declared.out_lines.OutLine.{OutLine}
use Rattle.script_text.specs.declared.out_lines.OutLine.TheVariants as line
use Rattle.trace_audit.specs.declared.verdicts.Fault.{Fault}
use Rattle.trace_audit.specs.declared.verdicts.Fault.TheVariants as fault
use Rattle.trace_audit.specs.declared.verdicts.Verdict.{Verdict}
use Rattle.trace_audit.specs.declared.verdicts.Verdict.TheVariants as verdict
use Rattle.trace_audit.specs.Faults.{AreFaultless, IsFirstFault, rank}
use Rattle.trace_audit.specs.Fits.{Fits, IsFirstUnfit}
use Rattle.trace_audit.specs.Told.{history_of, trace_of}
use Rattle.trace_audit.specs.Verdicts.{IsFirstAtFault, IsFirstMissing, IsVerdict, IsWhole}
use Rattle.trace_audit.proofs.LinearLemmas.{linear, sound_from, whole_from}

-- the least of two numbers with a property that no smaller has are the same
same_least : (i j : ℕ) → (i < j → ⊥) → (j < i → ⊥) → i ≡ j
same_least i j a b = elim (cases_lt i j) [ inl less ↦ absurd (a less) | inr more ↦ elim (cases_lt j i) [ inl less ↦ absurd (b less) | inr upto ↦ omega (arith, more, upto) ] ]

same_unfit : (lines : List OutLine) (n m : ℕ) → IsFirstUnfit lines n → IsFirstUnfit lines m → n ≡ m
same_unfit lines n m a b =
    let same = same_least a.0 b.0 (λ less. a.2 (b.3 a.0 less)) (λ less. b.2 (a.3 b.0 less)) in
    omega (arith, same, a.1, b.1)

fits_or_not : {P : Type 0} (lines : List OutLine) (n : ℕ) → Fits lines → IsFirstUnfit lines n → P
fits_or_not lines n fits a = absurd (a.2 (fits a.0))

rank_tells : (f g : Fault) → rank f ≡ rank g → f ≡ g
rank_tells fault.Unknown fault.Unknown h = refl
rank_tells fault.Double fault.Double h = refl
rank_tells fault.Differs fault.Differs h = refl
rank_tells fault.Order fault.Order h = refl
rank_tells fault.Reply fault.Reply h = refl
rank_tells f g h = absurd (omega arith)

module _ (trace : List Moment) (entries : List Entry) where
  same_first : (place : ℕ) (e : Entry) (f g : Fault) → IsFirstFault trace entries place e f → IsFirstFault trace entries place e g → f ≡ g
  same_first place e f g a b = rank_tells f g (same_least (rank f) (rank g) (λ less. b.1 f less a.0) (λ less. a.1 g less b.0))

  same_place : (n m c k d l : ℕ) (f g : Fault) (a : IsFirstAtFault trace entries n f c k) (b : IsFirstAtFault trace entries m g d l) → a.place ≡ b.place
  same_place n m c k d l f g a b = same_least a.place b.place (λ less. b.before a.place a.entry less a.there f a.first.0) (λ less. a.before b.place b.entry less b.there g b.first.0)

  same_fault : (n m c k d l : ℕ) (f g : Fault) → IsFirstAtFault trace entries n f c k → IsFirstAtFault trace entries m g d l → verdict.Entry n f c k ≡ verdict.Entry m g d l
  same_fault n m c k d l f g a b =
      let place = same_place n m c k d l f g a b in
      let entry : a.entry ≡ b.entry = same_Some a.entry b.entry (sym a.there ∙ ap (slice_get entries) place ∙ b.there) in
      let which : f ≡ g = same_first b.place b.entry f g (rw (place, entry) at a.first) b.first in
      let counted : n ≡ m = a.counted ∙ ap (λ x. x + 1) place ∙ sym b.counted in
      let client : c ≡ d = sym a.client_is ∙ ap (λ (x : Entry). x.client) entry ∙ b.client_is in
      let call : k ≡ l = sym a.call_is ∙ ap (λ (x : Entry). x.number) entry ∙ b.call_is in
      cc

  sound_or_not : {P : Type 0} (n c k : ℕ) (f : Fault) → AreFaultless trace entries (length entries) → IsFirstAtFault trace entries n f c k → P
  sound_or_not n c k f sound a = absurd (sound a.place a.entry (slice_get_within entries a.place a.entry a.there) a.there f a.first.0)

module _ (lines : List OutLine) (entries : List Entry) where
  same_missing : (c n d m : ℕ) → IsFirstMissing lines entries c n → IsFirstMissing lines entries d m → verdict.Missing c n ≡ verdict.Missing d m
  same_missing c n d m a b =
      let place : a.0 ≡ b.0 = same_least a.0 b.0 (λ less. b.4 a.0 c n a.1 less a.2 a.3) (λ less. a.4 b.0 d m b.1 less b.2 b.3) in
      let out : a.1 ≡ b.1 = same_Some a.1 b.1 (sym a.2 ∙ ap (slice_get lines) place ∙ b.2) in
      let both : line.Ended c n a.3.0 ≡ line.Ended d m b.3.0 = sym a.3.1 ∙ out ∙ b.3.1 in
      cc

  whole_or_not : {P : Type 0} (c n : ℕ) → IsWhole lines entries → IsFirstMissing lines entries c n → P
  whole_or_not c n whole a = absurd (whole a.0 c n a.1 a.2 a.3)

pub one_verdict : (lines : List OutLine) (v w : Verdict) → IsVerdict lines v → IsVerdict lines w → v ≡ w
one_verdict lines (verdict.Trace n) (verdict.Trace m) a b = ap verdict.Trace (same_unfit lines n m a b)
one_verdict lines (verdict.Trace n) (verdict.Entry at f c k) a b = fits_or_not lines n b.0 a
one_verdict lines (verdict.Trace n) (verdict.Missing c k) a b = fits_or_not lines n b.0 a
one_verdict lines (verdict.Trace n) (verdict.Linear count) a b = fits_or_not lines n b.0 a
one_verdict lines (verdict.Entry at f c k) (verdict.Trace n) a b = fits_or_not lines n a.0 b
one_verdict lines (verdict.Entry at f c k) (verdict.Entry at' g d l) a b = same_fault (trace_of lines) (history_of lines) at at' c k d l f g a.1 b.1
one_verdict lines (verdict.Entry at f c k) (verdict.Missing d l) a b = sound_or_not (trace_of lines) (history_of lines) at c k f b.1 a.1
one_verdict lines (verdict.Entry at f c k) (verdict.Linear count) a b = sound_or_not (trace_of lines) (history_of lines) at c k f b.1 a.1
one_verdict lines (verdict.Missing c k) (verdict.Trace n) a b = fits_or_not lines n a.0 b
one_verdict lines (verdict.Missing c k) (verdict.Entry at f d l) a b = sound_or_not (trace_of lines) (history_of lines) at d l f a.1 b.1
one_verdict lines (verdict.Missing c k) (verdict.Missing d l) a b = same_missing lines (history_of lines) c k d l a.2 b.2
one_verdict lines (verdict.Missing c k) (verdict.Linear count) a b = whole_or_not lines (history_of lines) c k b.2 a.2
one_verdict lines (verdict.Linear count) (verdict.Trace n) a b = fits_or_not lines n a.0 b
one_verdict lines (verdict.Linear count) (verdict.Entry at f c k) a b = sound_or_not (trace_of lines) (history_of lines) at c k f a.1 b.1
one_verdict lines (verdict.Linear count) (verdict.Missing c k) a b = whole_or_not lines (history_of lines) c k a.2 b.2
one_verdict lines (verdict.Linear count) (verdict.Linear other) a b = ap verdict.Linear (a.3 ∙ sym b.3)

pub linear_exactly : (lines : List OutLine) (count : ℕ) → IsVerdict lines (verdict.Linear count) ↔ (Fits lines × IsLinear (trace_of lines) (history_of lines) × (count ≡ length (history_of lines)))
linear_exactly lines count = (λ v. (v.0, linear lines v.0 v.1 v.2, v.3), λ h. (h.0, sound_from lines h.0 h.1, whole_from lines h.0 h.1, h.2))

-- of a verdict: it is linear exactly there
pub linear_of : (lines : List OutLine) (v : Verdict) → IsVerdict lines v → (count : ℕ) → (v ≡ verdict.Linear count) ↔ (Fits lines × IsLinear (trace_of lines) (history_of lines) × (count ≡ length (history_of lines)))
linear_of lines v is count = (λ e. (linear_exactly lines count).0 (rw e at is), λ h. one_verdict lines v (verdict.Linear count) is ((linear_exactly lines count).1 h))

pub linear_result : {E : Type 0} (lines : List OutLine) (r : Result Verdict E) → IfOk r (IsVerdict lines) → IfOk r (λ v. (count : ℕ) → (v ≡ verdict.Linear count) ↔ (Fits lines × IsLinear (trace_of lines) (history_of lines) × (count ≡ length (history_of lines))))
linear_result lines (Ok v) is = linear_of lines v is
linear_result lines (Err e) is = tt
