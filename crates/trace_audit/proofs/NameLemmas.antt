-- When two names, each a client and a number, are the same.
use Rattle.std.proofs.Common.{◌≡◌, ℕ, Bool, true, false, ◌&&◌, ◌||◌, ◌==◌, ◌⊎◌, inl, inr, cond, refl, ap₂, ◌∙◌, arith, Less, Equal, Greater}
use Rattle.std.specs.declared.cmp.Ordering.{Ordering}
use Rattle.std.specs.Ordering.{nat_cmp, ordering_then, is_eq}
use Rattle.std.proofs.lemmas.Bool.Decides.{nat_tests}
use Rattle.trace_audit.specs.Tables.{name_cmp}

pub is_eq-number : (x y : ℕ) → is_eq (nat_cmp x y) ≡ (y == x)
is_eq-number x y = grind (arith, nat_tests)

is_eq-then : (o p : Ordering) → is_eq (ordering_then o p) ≡ (is_eq o && is_eq p)
is_eq-then Less p = refl
is_eq-then Equal p = refl
is_eq-then Greater p = refl

-- a name is found exactly by its client and number
pub is_eq-name : (client number c n : ℕ) → is_eq (name_cmp (client, number) (c, n)) ≡ ((c == client) && (n == number))
is_eq-name client number c n = is_eq-then (nat_cmp client c) (nat_cmp number n) ∙ ap₂ (λ a b. a && b) (is_eq-number client c) (is_eq-number number n)

pub or-cond : (a b : Bool) → cond a true b ≡ (a || b)
or-cond true b = refl
or-cond false b = refl

-- two names are the same, or they are not
pub same_or_other : (client number c n : ℕ) → ((c ≡ client) × (n ≡ number) × (((c == client) && (n == number)) ≡ true)) ⊎ ((c ≡ client → n ≡ number → ⊥) × (((c == client) && (n == number)) ≡ false))
same_or_other client number c n = by_tests (c == client) (n == number) refl refl
  where
    by_tests : (a b : Bool) → (c == client) ≡ a → (n == number) ≡ b → ((c ≡ client) × (n ≡ number) × (((c == client) && (n == number)) ≡ true)) ⊎ ((c ≡ client → n ≡ number → ⊥) × (((c == client) && (n == number)) ≡ false))
    by_tests true true p q = inl (grind (arith, nat_tests), grind (arith, nat_tests), ap₂ (λ a b. a && b) p q)
    by_tests true false p q = inr (λ h k. grind (arith, nat_tests), ap₂ (λ a b. a && b) p q)
    by_tests false true p q = inr (λ h k. grind (arith, nat_tests), ap₂ (λ a b. a && b) p q)
    by_tests false false p q = inr (λ h k. grind (arith, nat_tests), ap₂ (λ a b. a && b) p q)
