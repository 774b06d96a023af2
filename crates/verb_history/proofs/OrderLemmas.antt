-- Sorted lists are fixed by what they have, and by the order of those that tie.
use Rattle.std.proofs.Common.{◌≡◌, ℕ, suc, ◌<◌, ◌≤◌, Bool, true, false, not, cond, List, [], ◌∷◌, length, get_or, map, refl, sym, ap, subst, ◌∙◌, arith}
use Rattle.std.proofs.lemmas.Bool.{false≢true}
use Rattle.std.proofs.lemmas.List.Elements.{recursion_from_All}
use Rattle.std.proofs.lemmas.List.Sorted.{sorted_far}
use Rattle.std.specs.Cmp.{IsStrictWeakOrder}
use Rattle.std.specs.List.{AllByRecursion, All, filter}
use Rattle.std.specs.List.Sorted.{IsSortedBy, ties}
use Rattle.std.specs.Prelude.{◌&&◌, ⊤}

pub all_weaker : {X : Type 0} {P Q : X → Type 0} → ((x : X) → P x → Q x) → (xs : List X) → AllByRecursion P xs → AllByRecursion Q xs
all_weaker weaker [] all = tt
all_weaker weaker (x ∷ xs) all = (weaker x all.0, all_weaker weaker xs all.1)

-- ---- what a test leaves

abbrev after_first : {X : Type 0} → List X → List X
after_first [] = []
after_first (x ∷ xs) = xs

module _ {X : Type 0} (test : X → Bool) where
  pub filter_yes : (x : X) (xs : List X) → test x ≡ true → filter test (x ∷ xs) ≡ x ∷ filter test xs
  filter_yes x xs is = ap (λ t. cond t (x ∷ filter test xs) (filter test xs)) is

  pub filter_no : (x : X) (xs : List X) → test x ≡ false → filter test (x ∷ xs) ≡ filter test xs
  filter_no x xs is = ap (λ t. cond t (x ∷ filter test xs) (filter test xs)) is

  pub filter_none : (xs : List X) → AllByRecursion (λ x. test x ≡ false) xs → filter test xs ≡ []
  filter_none [] all = refl
  filter_none (x ∷ xs) all = filter_no x xs all.0 ∙ filter_none xs all.1

  -- what holds of all holds of the first that is left
  first_left : (P : X → Type 0) (xs : List X) (y : X) (ys : List X) → AllByRecursion P xs → filter test xs ≡ y ∷ ys → P y
  first_left P [] y ys all is = absurd cc
  first_left P (x ∷ xs) y ys all is = by (test x) refl (first_left P xs y ys all.1)
    where
      by : (t : Bool) → test x ≡ t → (filter test xs ≡ y ∷ ys → P y) → P y
      by true left rest = subst P (ap (λ zs. get_or zs 0 y) (sym (filter_yes x xs left) ∙ is)) all.0
      by false gone rest = rest (sym (filter_no x xs gone) ∙ is)

  -- of two lists that begin alike, the rests leave the same if the lists do
  rests_alike : (x : X) (xs ys : List X) → filter test (x ∷ ys) ≡ filter test (x ∷ xs) → filter test ys ≡ filter test xs
  rests_alike x xs ys = by (test x)
    where
      by : (t : Bool) → cond t (x ∷ filter test ys) (filter test ys) ≡ cond t (x ∷ filter test xs) (filter test xs) → filter test ys ≡ filter test xs
      by true is = ap after_first is
      by false is = is

pub filter-map : {X Y : Type 0} (f : X → Y) (test : Y → Bool) (xs : List X) → filter test (map f xs) ≡ map f (filter (λ x. test (f x)) xs)
filter-map f test [] = refl
filter-map f test (x ∷ xs) = by (test (f x)) (filter-map f test xs)
  where
    by : (t : Bool) → filter test (map f xs) ≡ map f (filter (λ x. test (f x)) xs)
        → cond t (f x ∷ filter test (map f xs)) (filter test (map f xs)) ≡ map f (cond t (x ∷ filter (λ x. test (f x)) xs) (filter (λ x. test (f x)) xs))
    by true rest = ap (λ ys. f x ∷ ys) rest
    by false rest = rest

-- ---- sorted lists

-- no element is below one that stands ahead of it
abbrev pub Rises : {X : Type 0} → (X → X → Bool) → List X → Type 0
Rises lt [] = ⊤
Rises lt (x ∷ xs) = AllByRecursion (λ y. lt y x ≡ false) xs × Rises lt xs

rises_from_far : {X : Type 0} (lt : X → X → Bool) (xs : List X) → ((i j : ℕ) (d : X) → i ≤ j → j < length xs → lt (get_or xs j d) (get_or xs i d) ≡ false) → Rises lt xs
rises_from_far lt [] up = tt
rises_from_far lt (x ∷ xs) up =
    let first : All (λ y. lt y x ≡ false) xs = λ k d within. up 0 (suc k) d (omega arith) (omega arith) in
    (recursion_from_All (λ y. lt y x ≡ false) xs first, rises_from_far lt xs (λ i j d low within. up (suc i) (suc j) d (omega arith) (omega arith)))

both_not : (a b : Bool) → (not a && not b) ≡ true → (a ≡ false) × (b ≡ false)
both_not true b is = absurd cc
both_not false true is = absurd cc
both_not false false is = (refl, refl)

module _ {X : Type 0} (lt : X → X → Bool) (order : IsStrictWeakOrder lt) where
  pub rises_from_sorted : (xs : List X) → IsSortedBy lt xs → Rises lt xs
  rises_from_sorted xs sorted = rises_from_far lt xs (sorted_far lt order xs sorted)

  pub not_below_itself : (x : X) → lt x x ≡ false
  not_below_itself x = by (lt x x) refl
    where
      by : (t : Bool) → lt x x ≡ t → lt x x ≡ false
      by true is = order.one_way x x is
      by false is = is

  tied : (x y : X) → lt x y ≡ false → lt y x ≡ false → ties lt x y ≡ true
  tied x y p q = ap (λ t. not t && not (lt y x)) p ∙ ap not q

  with_itself : (x : X) → ties lt x x ≡ true
  with_itself x = tied x x (not_below_itself x) (not_below_itself x)

  -- what ties with an element that is below another does not tie with what is not below that one
  pub no_tie : (x one other y : X) → ties lt x one ≡ true → lt one other ≡ true → lt y other ≡ false → ties lt x y ≡ false
  no_tie x one other y with_one below up = by (ties lt x y) refl
    where
      by : (t : Bool) → ties lt x y ≡ t → ties lt x y ≡ false
      by true is =
          let near = both_not (lt x one) (lt one x) with_one in
          let far = both_not (lt x y) (lt y x) is in
          let level : lt one y ≡ false = order.chain one x y near.1 far.0 in
          absurd (false≢true (sym (order.chain one y other level up) ∙ below))
      by false is = is

  pub same_sorted : (xs ys : List X) → Rises lt xs → Rises lt ys → ((x : X) → filter (ties lt x) ys ≡ filter (ties lt x) xs) → xs ≡ ys
  same_sorted [] [] p q same = refl
  same_sorted [] (y ∷ ys) p q same =
      let here = sym (filter_yes (ties lt y) y ys (with_itself y)) ∙ same y in absurd cc
  same_sorted (x ∷ xs) [] p q same =
      let here = same x ∙ filter_yes (ties lt x) x xs (with_itself x) in absurd cc
  same_sorted (x ∷ xs) (y ∷ ys) p q same = ap (λ z. z ∷ xs) first ∙ ap (λ zs. y ∷ zs) (same_sorted xs ys p.1 q.1 rest)
    where
      there : filter (ties lt x) (y ∷ ys) ≡ x ∷ filter (ties lt x) xs
      there = same x ∙ filter_yes (ties lt x) x xs (with_itself x)

      back : filter (ties lt y) (x ∷ xs) ≡ y ∷ filter (ties lt y) ys
      back = sym (same y) ∙ filter_yes (ties lt y) y ys (with_itself y)

      x_not_below : lt x y ≡ false
      x_not_below = first_left (ties lt x) (λ z. lt z y ≡ false) (y ∷ ys) x (filter (ties lt x) xs) (not_below_itself y, q.0) there

      y_not_below : lt y x ≡ false
      y_not_below = first_left (ties lt y) (λ z. lt z x ≡ false) (x ∷ xs) y (filter (ties lt y) ys) (not_below_itself x, p.0) back

      first : x ≡ y
      first = ap (λ zs. get_or zs 0 x) (sym there ∙ filter_yes (ties lt x) y ys (tied x y x_not_below y_not_below))

      rest : (z : X) → filter (ties lt z) ys ≡ filter (ties lt z) xs
      rest z = rests_alike (ties lt z) y xs ys (same z ∙ ap (λ w. filter (ties lt z) (w ∷ xs)) first)
