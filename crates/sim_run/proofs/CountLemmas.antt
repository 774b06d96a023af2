-- Counts of lists, element by element.
use Rattle.std.proofs.Common.{◌≡◌, ℕ, ◌+◌, ◌<◌, Bool, true, false, List, [], ◌∷◌, length, map, take, get_or, if◌then◌else◌, refl, sym, ap, ◌∙◌, add-zero, arith}
use Rattle.std.specs.Prelude.{count_by}
use Rattle.std.proofs.lemmas.List.Sums.{count_by_more_no, count_by_more_yes, sum_by-append}

pub count-cons : {X : Type 0} (test : X → Bool) (x : X) (xs : List X) → count_by test (x ∷ xs) ≡ (if test x then 1 else 0) + count_by test xs
count-cons test x xs =
    let both = sum_by-append (λ y. if test y then 1 else 0) (x ∷ []) xs in
    omega (arith, both)

pub count-more : {X : Type 0} (test : X → Bool) (xs : List X) (i : ℕ) (x : X) → i < length xs → x ≡ get_or xs i x → count_by test (take (i + 1) xs) ≡ count_by test (take i xs) + (if test x then 1 else 0)
count-more test xs i x within is = by (test x) refl
  where
    by : (t : Bool) → test x ≡ t → count_by test (take (i + 1) xs) ≡ count_by test (take i xs) + (if t then 1 else 0)
    by true same = count_by_more_yes test xs i x within (ap test (sym is) ∙ same)
    by false same = count_by_more_no test xs i x within (ap test (sym is) ∙ same) ∙ sym (add-zero (count_by test (take i xs)))

pub count-map : {X Y : Type 0} (test : Y → Bool) (f : X → Y) (xs : List X) → count_by test (map f xs) ≡ count_by (λ x. test (f x)) xs
count-map test f [] = refl
count-map test f (x ∷ xs) = count-cons test (f x) (map f xs) ∙ ap (λ n. (if test (f x) then 1 else 0) + n) (count-map test f xs) ∙ sym (count-cons (λ y. test (f y)) x xs)
