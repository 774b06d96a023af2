-- The first number of a row that passes a test.
use Rattle.std.proofs.Common.{◌≡◌, ℕ, zero, suc, ◌+◌, ◌<◌, ◌≤◌, ◌⊎◌, inl, inr, Bool, true, false, map, filter, get_or, refl, sym, ap, subst, arith}
use Rattle.std.specs.List.{range_with_len}
use Rattle.std.proofs.lemmas.Bool.{cases_lt}

-- the first that passes is the first that a filter keeps
pub first_kept : (p : ℕ → Bool) (f : ℕ → ℕ) (a n i d : ℕ) → a ≤ i → i < a + n → ((k : ℕ) → a ≤ k → k < i → p (f k) ≡ false) → p (f i) ≡ true → get_or (filter p (map f (range_with_len a n))) 0 d ≡ f i
first_kept p f a zero i d least below before passes = absurd (omega arith)
first_kept p f a (suc n) i d least below before passes = by (cases_lt a i) (first_kept p f (a + 1) n i d)
  where
    by : (a < i) ⊎ (i ≤ a) → (a + 1 ≤ i → i < a + 1 + n → ((k : ℕ) → a + 1 ≤ k → k < i → p (f k) ≡ false) → p (f i) ≡ true → get_or (filter p (map f (range_with_len (a + 1) n))) 0 d ≡ f i)
        → get_or (filter p (map f (range_with_len a (suc n)))) 0 d ≡ f i
    by (inl later) rest = rw (before a (omega arith) later) (rest (omega arith) (omega arith) (λ k above under. before k (omega arith) under) passes)
    by (inr here) rest =
        let same : i ≡ a = omega arith in
        let P : ℕ → Type 0 = λ k. p (f k) ≡ true in
        rw (subst P same passes) (ap f (sym same))

pub none_kept : (p : ℕ → Bool) (f : ℕ → ℕ) (a n d : ℕ) → ((k : ℕ) → a ≤ k → k < a + n → p (f k) ≡ false) → get_or (filter p (map f (range_with_len a n))) 0 d ≡ d
none_kept p f a zero d none = refl
none_kept p f a (suc n) d none = rw (none a (omega arith) (omega arith)) (none_kept p f (a + 1) n d (λ k above under. none k (omega arith) (omega arith)))
