-- A call is refused exactly for its reason.
use Rattle.std.proofs.Common.{◌≡◌, ◌≢◌, ℕ, ◌⊎◌, inl, inr, ◌==◌, nat_lt, ◌&&◌, Bool, true, false, Some, None, refl, sym, ap, ◌∙◌, arith}
use Rattle.std.specs.Prelude.{◌↔◌, nat_le, Result, Ok, Err}
use Rattle.std.proofs.lemmas.Bool.Decides.{eqb_tells, nat_tests}
use Rattle.kv_ops.specs.Invocations.{IsReason, IsRefusal}
use Rattle.machine.specs.declared.client_call.Before.{Before}
use Rattle.machine.specs.declared.client_call.Before.TheVariants.{KeyLength, ValueLength, Spent}
use Rattle.machine.specs.Client.{refusal}
use Rattle.machine.specs.Stage.{Client}
use Rattle.object_form.specs.declared.classes.TheConstants.{LONGEST}

pub refused-exactly : (client : Client) (key_len value_len : ℕ) (before : Before) → (refusal client key_len value_len ≡ Some before) ↔ IsReason client key_len value_len before
refused-exactly client key_len value_len = by (nat_lt 0 key_len && nat_le key_len 64) refl (nat_le value_len LONGEST) refl (eqb_tells client.number client.shape.calls)
  where
    by : (t : Bool) → (nat_lt 0 key_len && nat_le key_len 64) ≡ t → (u : Bool) → nat_le value_len LONGEST ≡ u
        → (((client.number == client.shape.calls) ≡ true) × (client.number ≡ client.shape.calls)) ⊎ (((client.number == client.shape.calls) ≡ false) × (client.number ≢ client.shape.calls))
        → (before : Before) → (refusal client key_len value_len ≡ Some before) ↔ IsReason client key_len value_len before
    by false key u value spent (KeyLength len) = rw key ((λ is. (let same : key_len ≡ len = cc in sym same, λ fits. grind (arith, nat_tests))), (λ is. ap (λ n. Some (KeyLength n)) (sym is.0)))
    by false key u value spent (ValueLength len) = rw key ((λ is. absurd cc), (λ is. absurd (let fits = is.1 in grind (arith, nat_tests))))
    by false key u value spent Spent = rw key ((λ is. absurd cc), (λ is. absurd (let fits = is.0 in grind (arith, nat_tests))))
    by true key false value spent (KeyLength len) = rw (key, value) ((λ is. absurd cc), (λ is. absurd (is.1 (grind (arith, nat_tests), grind (arith, nat_tests)))))
    by true key false value spent (ValueLength len) = rw (key, value) ((λ is. (let same : value_len ≡ len = cc in sym same, (grind (arith, nat_tests), grind (arith, nat_tests)), grind (arith, nat_tests))), (λ is. ap (λ n. Some (ValueLength n)) (sym is.0)))
    by true key false value spent Spent = rw (key, value) ((λ is. absurd cc), (λ is. absurd (let short = is.1 in grind (arith, nat_tests))))
    by true key true value (inl (all, last)) (KeyLength len) = rw (key, value, all) ((λ is. absurd cc), (λ is. absurd (is.1 (grind (arith, nat_tests), grind (arith, nat_tests)))))
    by true key true value (inl (all, last)) (ValueLength len) = rw (key, value, all) ((λ is. absurd cc), (λ is. absurd (let long = is.2 in grind (arith, nat_tests))))
    by true key true value (inl (all, last)) Spent = rw (key, value, all) ((λ is. ((grind (arith, nat_tests), grind (arith, nat_tests)), grind (arith, nat_tests), last)), (λ is. refl))
    by true key true value (inr (more, left)) (KeyLength len) = rw (key, value, more) ((λ is. absurd cc), (λ is. absurd (is.1 (grind (arith, nat_tests), grind (arith, nat_tests)))))
    by true key true value (inr (more, left)) (ValueLength len) = rw (key, value, more) ((λ is. absurd cc), (λ is. absurd (let long = is.2 in grind (arith, nat_tests))))
    by true key true value (inr (more, left)) Spent = rw (key, value, more) ((λ is. absurd cc), (λ is. absurd (left is.2)))

-- so is what tells the refusal
pub told-exactly : (client : Client) (key_len value_len : ℕ) (result : Result (Unit {0}) Before) → IsRefusal client key_len value_len result
    → (before : Before) → (result ≡ Err before) ↔ IsReason client key_len value_len before
told-exactly client key_len value_len (Ok made) is before = ((λ same. absurd cc), (λ reason. absurd (let never : None ≡ Some before = is ∙ (refused-exactly client key_len value_len before).1 reason in cc)))
told-exactly client key_len value_len (Err other) is before = (
  (λ same. let was : other ≡ before = cc in (refused-exactly client key_len value_len before).0 (sym is ∙ ap Some was)),
  (λ reason. let told : Some other ≡ Some before = is ∙ (refused-exactly client key_len value_len before).1 reason in let was : other ≡ before = cc in ap Err was),
)
