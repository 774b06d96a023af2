-- Places in a list that goes on.
use Rattle.std.proofs.Common.{◌≡◌, ℕ, zero, suc, ◌+◌, ◌⊎◌, inl, inr, List, [], ◌∷◌, ◌++◌, length, Some, set, refl, ap}
use Rattle.std.proofs.Common.{sym, zero-add}
use Rattle.std.proofs.Math.Nat.{suc-add}
use Rattle.std.specs.Prelude.{slice_get}
use Rattle.std.proofs.lemmas.Option.{same_Some}

-- what stands in a list stands there in what it goes on to
pub get-left : {X : Type 0} (xs ys : List X) (i : ℕ) (x : X) → slice_get xs i ≡ Some x → slice_get (xs ++ ys) i ≡ Some x
get-left [] ys i x h = cc
get-left (y ∷ xs) ys zero x h = h
get-left (y ∷ xs) ys (suc i) x h = get-left xs ys i x h

-- one more element stands at the end
pub get-last : {X : Type 0} (xs : List X) (y : X) → slice_get (xs ++ y ∷ []) (length xs) ≡ Some y
get-last [] y = refl
get-last (x ∷ xs) y = get-last xs y

-- what was written at a place stands there, and all else as before
pub get-set_same : {X : Type 0} (xs : List X) (i : ℕ) (v x : X) → slice_get (set xs i v) i ≡ Some x → v ≡ x
get-set_same [] i v x h = cc
get-set_same (y ∷ xs) zero v x h = cc
get-set_same (y ∷ xs) (suc i) v x h = get-set_same xs i v x h

pub get-set_other : {X : Type 0} (xs : List X) (i j : ℕ) (v x : X) → (j ≡ i → ⊥) → slice_get (set xs i v) j ≡ Some x → slice_get xs j ≡ Some x
get-set_other [] i j v x apart h = h
get-set_other (y ∷ xs) zero zero v x apart h = absurd (apart refl)
get-set_other (y ∷ xs) zero (suc j) v x apart h = h
get-set_other (y ∷ xs) (suc i) zero v x apart h = h
get-set_other (y ∷ xs) (suc i) (suc j) v x apart h = get-set_other xs i j v x (λ e. apart (ap suc e)) h

-- what stands in the second of two lists stands in both, the first before it
pub get-right : {X : Type 0} (xs ys : List X) (i : ℕ) (x : X) → slice_get ys i ≡ Some x → slice_get (xs ++ ys) (length xs + i) ≡ Some x
get-right [] ys i x h = rw zero-add h
get-right (y ∷ xs) ys i x h = rw suc-add (get-right xs ys i x h)

no_more : {X : Type 0} (P : X → Type 0) (y : X) (xs : List X) → (P y → ⊥) → ((i : ℕ) (x : X) → slice_get xs i ≡ Some x → P x → ⊥) → (i : ℕ) (x : X) → slice_get (y ∷ xs) i ≡ Some x → P x → ⊥
no_more P y xs not none zero x h p = let same : x ≡ y = sym (same_Some y x h) in not (rw same at p)
no_more P y xs not none (suc i) x h p = none i x h p

-- an element that P holds of, or none
pub find_or_none : {X : Type 0} (P : X → Type 0) → ((x : X) → P x ⊎ (P x → ⊥)) → (xs : List X) → ((i : ℕ) × (x : X) × (slice_get xs i ≡ Some x) × P x) ⊎ ((i : ℕ) (x : X) → slice_get xs i ≡ Some x → P x → ⊥)
find_or_none P decide [] = inr (λ i x h p. cc)
find_or_none P decide (y ∷ xs) = elim (decide y) [
  | inl p ↦ inl (0, y, refl, p)
  | inr not ↦ elim (find_or_none P decide xs) [
    | inl found ↦ inl (suc found.0, found.1, found.2, found.3)
    | inr none ↦ inr (no_more P y xs not none)
  ]
]
