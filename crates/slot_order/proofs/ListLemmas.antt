use Rattle.std.proofs.Common.{◌≡◌, ◌≢◌, ℕ, suc, zero, ◌+◌, ◌-◌, ◌<◌, ◌≤◌, ◌⊎◌, inl, inr, Bool, true, false, not, ◌==◌, List, [], ◌∷◌, ◌++◌, length, get_or, refl, ap, add-one, arith}
use Rattle.std.specs.List.{AllPairs, filter, list_any, range_with_len}
use Rattle.std.proofs.lemmas.Bool.{cases_lt, not-true, eq-eqb, ne_eqb}
use Rattle.std.proofs.lemmas.Bool.Decides.{eqb_tells}
use Rattle.std.proofs.lemmas.List.{length-append, get_or_append_left, get_or-append_right}
use Rattle.std.proofs.lemmas.List.Elements.{filter_passes}
use Rattle.std.proofs.lemmas.List.Folds.{list_any_at}
use Rattle.std.proofs.lemmas.List.Kept.{AllPairs-filter}

-- a number more in the range, by its successor
range_with_len-suc : (a n j : ℕ) → a + n ≡ j → range_with_len a (suc n) ≡ range_with_len a n ++ j ∷ []
range_with_len-suc a zero j is = let same : a ≡ j = omega arith in ap (λ x. x ∷ []) same
range_with_len-suc a (suc n) j is = ap (λ xs. a ∷ xs) (range_with_len-suc (a + 1) n j (omega arith))

-- a number more in the range
pub range_with_len-push : (a n : ℕ) → range_with_len a (n + 1) ≡ range_with_len a n ++ (a + n) ∷ []
range_with_len-push a n = rw add-one (range_with_len-suc a n (a + n) refl)

-- whether a number is one of some others
abbrev pub is_one_of : List ℕ → ℕ → Bool
is_one_of come k = list_any (λ other. other == k) come

-- a number of the range is found in it
pub is_one_of-range-inside : (a n k : ℕ) → a ≤ k → k < a + n → is_one_of (range_with_len a n) k ≡ true
is_one_of-range-inside a zero k low high = absurd (omega arith)
is_one_of-range-inside a (suc n) k low high =
    elim (eqb_tells a k) [
      | inl same ↦ rw same.0 refl
      | inr apart ↦ rw apart.0 (is_one_of-range-inside (a + 1) n k (omega (arith, apart.1)) (omega arith))
    ]

-- a number outside the range is not found in it
pub is_one_of-range-outside : (a n k : ℕ) → (k < a) ⊎ (a + n ≤ k) → is_one_of (range_with_len a n) k ≡ false
is_one_of-range-outside a zero k out = refl
is_one_of-range-outside a (suc n) k (inl below) =
    rw (ne_eqb a k (λ same. omega arith)) (is_one_of-range-outside (a + 1) n k (inl (omega arith)))
is_one_of-range-outside a (suc n) k (inr above) =
    rw (ne_eqb a k (λ same. omega arith)) (is_one_of-range-outside (a + 1) n k (inr (omega arith)))

-- a filter keeps a range whose numbers all pass
pub filter-range-kept : (p : ℕ → Bool) (a n : ℕ) → ((k : ℕ) → a ≤ k → k < a + n → p k ≡ true)
    → filter p (range_with_len a n) ≡ range_with_len a n
filter-range-kept p a zero passes = refl
filter-range-kept p a (suc n) passes =
    rw (passes a (omega arith) (omega arith)) (ap (λ xs. a ∷ xs) (filter-range-kept p (a + 1) n (λ k low high. passes k (omega arith) (omega arith))))

-- a filter leaves out a range none of whose numbers passes
pub filter-range-gone : (p : ℕ → Bool) (a n : ℕ) → ((k : ℕ) → a ≤ k → k < a + n → p k ≡ false)
    → filter p (range_with_len a n) ≡ []
filter-range-gone p a zero fails = refl
filter-range-gone p a (suc n) fails =
    rw (fails a (omega arith) (omega arith)) (filter-range-gone p (a + 1) n (λ k low high. fails k (omega arith) (omega arith)))

-- no two elements are the same
abbrev pub AllDifferent : List ℕ → Type 0
AllDifferent xs = AllPairs (λ one other. one ≢ other) xs

-- two lists that share no element
pub AllDifferent-append : (xs ys : List ℕ) → AllDifferent xs → AllDifferent ys
    → ((i j d : ℕ) → i < length xs → j < length ys → get_or xs i d ≢ get_or ys j d) → AllDifferent (xs ++ ys)
AllDifferent-append xs ys left right across i j d before within =
    let whole : length (xs ++ ys) ≡ length xs + length ys = length-append xs ys in
    elim (cases_lt j (length xs)) [
      | inl j_left ↦
          let at_i = get_or_append_left xs ys d i (omega arith) in
          let at_j = get_or_append_left xs ys d j j_left in
          rw (at_i, at_j) (left i j d before j_left)
      | inr j_right ↦
          let at_j = get_or-append_right xs ys (length xs) j d refl j_right in
          elim (cases_lt i (length xs)) [
            | inl i_left ↦
                let at_i = get_or_append_left xs ys d i i_left in
                rw (at_i, at_j) (across i (j - length xs) d i_left (omega arith))
            | inr i_right ↦
                let at_i = get_or-append_right xs ys (length xs) i d refl i_right in
                rw (at_i, at_j) (right (i - length xs) (j - length xs) d (omega arith) (omega arith))
          ]
    ]

-- the elements of a list that are none of some others share no element with them
pub differs_from_come : (come others : List ℕ) (i j d : ℕ) → i < length come
    → j < length (filter (λ k. not (is_one_of come k)) others)
    → get_or come i d ≢ get_or (filter (λ k. not (is_one_of come k)) others) j d
differs_from_come come others i j d i_within j_within same =
    let fresh = filter (λ k. not (is_one_of come k)) others in
    let kept = get_or fresh j d in
    let absent : is_one_of come kept ≡ false =
    not-true (is_one_of come kept) (filter_passes (λ k. not (is_one_of come k)) others j d j_within) in
    let present : is_one_of come kept ≡ true =
    list_any_at (λ other. other == kept) come i d i_within (eq-eqb (get_or come i d) kept same) in
    cc

-- some different numbers, then those of others that are new
pub AllDifferent-new : (come others : List ℕ) → AllDifferent come → AllDifferent others
    → AllDifferent (come ++ filter (λ k. not (is_one_of come k)) others)
AllDifferent-new come others left right =
    let fresh = filter (λ k. not (is_one_of come k)) others in
    AllDifferent-append come fresh left (AllPairs-filter (λ one other. one ≢ other) (λ k. not (is_one_of come k)) others right) (differs_from_come come others)
