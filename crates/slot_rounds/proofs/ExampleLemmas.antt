-- The events of two writers who change one slot at once may happen.
use Rattle.std.proofs.Common.{◌≡◌, ◌≢◌, ℕ, List, [], ◌∷◌, ◌++◌, refl, subst, arith, inl, inr}
use Rattle.slot_rounds.specs.Slot.{settled}
use Rattle.slot_rounds.specs.Write.{Write, Writing, begun}
use Rattle.slot_rounds.specs.Run.{Event, Begin, opening, happens, run}
use Rattle.slot_rounds.specs.Allowed.{IsAbsent, IsFresh, IsAllowed}
use Rattle.slot_rounds.specs.Since.{IsUnused, IsUnusedSince, IsAllowedSince}
use Rattle.slot_rounds.specs.Example.{contended}
use Rattle.slot_rounds.proofs.ListLemmas.{slice_index-replicate}
use Rattle.slot_rounds.proofs.MovedLemmas.{writing_put}
use Rattle.slot_rounds.proofs.EventLemmas.{idle_writes}

-- a slot that has 0 everywhere holds no other word
absent : (word : ℕ) → word ≢ 0 → IsAbsent (settled 2 0) word
absent word other = record {
  primary = other;
  backups = λ place within is. absurd (omega (arith, is, slice_index-replicate 2 0 place within, other));
}

-- once writer 1 has begun, its write is the only one under way
one_begun : (number : ℕ) (write : Write) → (happens (opening 2 0) (Begin 1 0 5)).writers number ≡ Writing write
    → begun 0 5 ≡ write
one_begun number write is =
    elim (writing_put (opening 2 0).writers 1 (Writing (begun 0 5)) number write is) [
      | inl here ↦ cc (here.1)
      | inr there ↦ absurd (idle_writes write there.1)
    ]

-- ---- as the state says it

pub IsAllowed-contended : IsAllowed (opening 2 0) contended
IsAllowed-contended =
    ((refl, refl, first_fresh), ((refl, refl, second_fresh), (tt, (tt, (tt, (tt, (tt, (tt, tt))))))))
  where
    first_fresh : IsFresh (opening 2 0) 5
    first_fresh = record {
      absent = absent 5 (omega arith);
      written = λ number write is. absurd (idle_writes write is);
      expected = λ number write is. absurd (idle_writes write is);
    }

    second_fresh : IsFresh (happens (opening 2 0) (Begin 1 0 5)) 9
    second_fresh = record {
      absent = absent 9 (omega arith);
      written = λ number write is. subst (λ (w : Write). 9 ≢ w.fresh) (one_begun number write is) (omega arith);
      expected = λ number write is. subst (λ (w : Write). 9 ≢ w.expected) (one_begun number write is) (omega arith);
    }

-- ---- as the past says it

unused_first : (word : ℕ) → word ≢ 0 → IsUnused (opening 2 0) word
unused_first word other = record { absent = absent word other; written = λ number write is. absurd (idle_writes write is) }

unused_second : IsUnused (happens (opening 2 0) (Begin 1 0 5)) 9
unused_second = record {
  absent = absent 9 (omega arith);
  written = λ number write is. subst (λ (w : Write). 9 ≢ w.fresh) (one_begun number write is) (omega arith);
}

at_first : (before later : List Event) → [] ≡ before ++ later → IsUnused (run (opening 2 0) before) 5
at_first [] later split = unused_first 5 (omega arith)
at_first (event ∷ before) later split = absurd cc

at_second : (before later : List Event) → Begin 1 0 5 ∷ [] ≡ before ++ later → IsUnused (run (opening 2 0) before) 9
at_second [] later split = unused_first 9 (omega arith)
at_second (event ∷ []) later split =
    let same : Begin 1 0 5 ≡ event = cc in subst (λ e. IsUnused (happens (opening 2 0) e) 9) same unused_second
at_second (event ∷ other ∷ before) later split = absurd cc

pub IsAllowedSince-contended : IsAllowedSince (opening 2 0) [] contended
IsAllowedSince-contended =
    ((refl, refl, since_first), ((refl, refl, since_second), (tt, (tt, (tt, (tt, (tt, (tt, tt))))))))
  where
    since_first : IsUnusedSince (opening 2 0) [] 5
    since_first = record {
      now = unused_first 5 (omega arith);
      since = λ before later number split stays. at_first before later split;
    }

    since_second : IsUnusedSince (opening 2 0) (Begin 1 0 5 ∷ []) 9
    since_second = record {
      now = unused_second;
      since = λ before later number split stays. at_second before later split;
    }
