-- Own blocks stay apart, and each phase is reached as it needs.
use Rattle.std.proofs.Common.{◌≡◌, ℕ, suc, ◌+◌, ◌-◌, ◌*◌, ◌/◌, ◌%◌, ◌<◌, ◌≤◌, ◌==◌, Bool, true, false, ◌||◌, List, [], ◌∷◌, ◌++◌, length, map, refl, sym, ap, subst, ◌∙◌, arith, length-append, eq-eqb}
use Rattle.std.specs.Prelude.{All}
use Rattle.std.specs.List.{AllByRecursion, IsDistinct, list_any}
use Rattle.std.specs.Cmp.Derive.{both_true}
use Rattle.std.proofs.Math.Nat.{mul-le-mul_right}
use Rattle.std.proofs.lemmas.Bool.{false≢true}
use Rattle.std.proofs.lemmas.Bool.Decides.{Decides-eqb}
use Rattle.std.proofs.lemmas.List.{length-map, map-append}
use Rattle.std.proofs.lemmas.Map.Keys.{IsDistinct-cons, IsDistinct-head, IsDistinct-tail}
use Rattle.std.proofs.lemmas.Map.Steps.{length-le_from_distinct_below}
use Rattle.std.proofs.lemmas.Nat.{div-mul-add, mod-mul-add}
use Rattle.machine.specs.Stock.{ClassStock, IsOwn, OwnBlock, is_block}
use Rattle.object_alloc.specs.Held.{IsApart, number_in}
use Rattle.region_view.specs.Sizes.{Sizes}

-- ---- a block that is not an own one has a number of its own

-- two blocks with one number are one block
block-at : (sizes : Sizes) (own : OwnBlock) (p : ℕ) → 1 ≤ own.region → own.block < sizes.blocks → number_in sizes own ≡ p → is_block (1 + p / sizes.blocks) (p % sizes.blocks) own ≡ true
block-at sizes own p region block is =
    let quotient : p / sizes.blocks ≡ own.region - 1 = ap (λ n. n / sizes.blocks) (sym is) ∙ div-mul-add (own.region - 1) sizes.blocks own.block block in
    let rest : p % sizes.blocks ≡ own.block = ap (λ n. n % sizes.blocks) (sym is) ∙ mod-mul-add (own.region - 1) sizes.blocks own.block block in
    both_true (eq-eqb own.region (1 + p / sizes.blocks) (omega arith)) (eq-eqb own.block (p % sizes.blocks) (sym rest))

-- each element but the first has what the list's elements have
tail : {A : Type 0} (P : A → Type 0) (x : A) (xs : List A) → All P (x ∷ xs) → All P xs
tail P x xs all = λ k d under. all (suc k) d (omega arith)

pub not_own-apart : (sizes : Sizes) (class p : ℕ) (own : List OwnBlock) → All (IsOwn sizes class) own → list_any (is_block (1 + p / sizes.blocks) (p % sizes.blocks)) own ≡ false
    → AllByRecursion (λ n. (n == p) ≡ false) (map (number_in sizes) own)
not_own-apart sizes class p [] all none = tt
not_own-apart sizes class p (one ∷ own) all none = by (is_block (1 + p / sizes.blocks) (p % sizes.blocks) one) refl (number_in sizes one == p) refl (not_own-apart sizes class p own (tail (IsOwn sizes class) one own all))
  where
    is : IsOwn sizes class one
    is = all 0 one (omega arith)

    by : (t : Bool) → is_block (1 + p / sizes.blocks) (p % sizes.blocks) one ≡ t → (u : Bool) → (number_in sizes one == p) ≡ u
        → (list_any (is_block (1 + p / sizes.blocks) (p % sizes.blocks)) own ≡ false → AllByRecursion (λ n. (n == p) ≡ false) (map (number_in sizes) own))
        → AllByRecursion (λ n. (n == p) ≡ false) (map (number_in sizes) (one ∷ own))
    by true here u same rest = absurd (false≢true (sym none ∙ (let P : Bool → Type 0 = λ b. (b || list_any (is_block (1 + p / sizes.blocks) (p % sizes.blocks)) own) ≡ true in subst P (sym here) refl)))
    by false there true same rest = absurd (false≢true (sym there ∙ block-at sizes one p is.region.0 is.block ((Decides-eqb (number_in sizes one) p).0 same)))
    by false there false other rest = (other, rest (let P : Bool → Type 0 = λ b. (b || list_any (is_block (1 + p / sizes.blocks) (p % sizes.blocks)) own) ≡ false in subst P there none))

all-push : (P : ℕ → Type 0) (xs : List ℕ) (x : ℕ) → AllByRecursion P xs → P x → AllByRecursion P (xs ++ x ∷ [])
all-push P [] x all is = (is, tt)
all-push P (y ∷ ys) x all is = (all.0, all-push P ys x all.1 is)

distinct-push : (xs : List ℕ) (x : ℕ) → IsDistinct (λ one other. one == other) xs → AllByRecursion (λ n. (n == x) ≡ false) xs → IsDistinct (λ one other. one == other) (xs ++ x ∷ [])
distinct-push [] x distinct other = IsDistinct-cons (λ one other. one == other) x [] tt distinct
distinct-push (y ∷ ys) x distinct other =
    IsDistinct-cons (λ one other. one == other) y (ys ++ x ∷ [])
    (all-push (λ n. (y == n) ≡ false) ys x (IsDistinct-head (λ one other. one == other) y ys distinct) other.0)
    (distinct-push ys x (IsDistinct-tail (λ one other. one == other) y ys distinct) other.1)

numbers-push : (sizes : Sizes) (own : List OwnBlock) (new : OwnBlock) → map (number_in sizes) (own ++ new ∷ []) ≡ map (number_in sizes) own ++ number_in sizes new ∷ []
numbers-push sizes own new = map-append (number_in sizes) own (new ∷ [])

-- own blocks and one more stay apart
pub apart-push : (sizes : Sizes) (of_class : ClassStock) (new : OwnBlock) → IsApart sizes of_class → AllByRecursion (λ n. (n == number_in sizes new) ≡ false) (map (number_in sizes) of_class.own)
    → IsApart sizes (record of_class { own = of_class.own ++ new ∷ [] })
apart-push sizes of_class new apart other =
    subst (λ numbers. IsDistinct (λ one other. one == other) numbers) (sym (numbers-push sizes of_class.own new)) (distinct-push (map (number_in sizes) of_class.own) (number_in sizes new) apart other)

-- ---- there are no more own blocks than blocks

number-below : (sizes : Sizes) (class : ℕ) (own : OwnBlock) → IsOwn sizes class own → number_in sizes own < sizes.regions * sizes.blocks
number-below sizes class own is =
    let fits = mul-le-mul_right {m = own.region - 1 + 1} {n = sizes.regions} sizes.blocks (omega (arith, is.region)) in
    let block = is.block in
    omega arith

any-below : (sizes : Sizes) (class : ℕ) (own : List OwnBlock) (q : ℕ) → All (IsOwn sizes class) own → list_any (λ n. q == n) (map (number_in sizes) own) ≡ true → q < sizes.regions * sizes.blocks
any-below sizes class [] q all any = absurd (false≢true any)
any-below sizes class (one ∷ own) q all any = by (q == number_in sizes one) refl (any-below sizes class own q (tail (IsOwn sizes class) one own all))
  where
    by : (t : Bool) → (q == number_in sizes one) ≡ t → (list_any (λ n. q == n) (map (number_in sizes) own) ≡ true → q < sizes.regions * sizes.blocks) → q < sizes.regions * sizes.blocks
    by true same rest = subst (λ n. n < sizes.regions * sizes.blocks) (sym ((Decides-eqb q (number_in sizes one)).0 same)) (number-below sizes class one (all 0 one (omega arith)))
    by false other rest = rest (let P : Bool → Type 0 = λ b. (b || list_any (λ n. q == n) (map (number_in sizes) own)) ≡ true in subst P other any)

-- the own blocks of a class are fewer than the blocks of the pool, where a block is none of them
pub apart-room : (sizes : Sizes) (class : ℕ) (own : List OwnBlock) (p : ℕ) → All (IsOwn sizes class) own → IsDistinct (λ one other. one == other) (map (number_in sizes) own)
    → AllByRecursion (λ n. (n == p) ≡ false) (map (number_in sizes) own) → p < sizes.regions * sizes.blocks → length own < sizes.regions * sizes.blocks
apart-room sizes class own p all apart other below =
    let numbers = map (number_in sizes) own in
    let few = length-le_from_distinct_below (numbers ++ p ∷ []) (sizes.regions * sizes.blocks) (distinct-push numbers p apart other)
    (λ q any. pushed-below numbers q (any-below sizes class own q all) any) in
    omega (arith, length-map own (number_in sizes), length-append numbers (p ∷ []))
  where
    pushed-below : (numbers : List ℕ) (q : ℕ) → (list_any (λ n. q == n) numbers ≡ true → q < sizes.regions * sizes.blocks) → list_any (λ n. q == n) (numbers ++ p ∷ []) ≡ true → q < sizes.regions * sizes.blocks
    pushed-below [] q rest any = last (q == p) refl any
      where
        last : (t : Bool) → (q == p) ≡ t → (t || false) ≡ true → q < sizes.regions * sizes.blocks
        last true same any = subst (λ n. n < sizes.regions * sizes.blocks) (sym ((Decides-eqb q p).0 same)) below
        last false other any = absurd (false≢true any)
    pushed-below (n ∷ numbers) q rest any = step (q == n) rest any (pushed-below numbers q)
      where
        step : (t : Bool) → ((t || list_any (λ n. q == n) numbers) ≡ true → q < sizes.regions * sizes.blocks) → (t || list_any (λ n. q == n) (numbers ++ p ∷ [])) ≡ true
            → ((list_any (λ n. q == n) numbers ≡ true → q < sizes.regions * sizes.blocks) → list_any (λ n. q == n) (numbers ++ p ∷ []) ≡ true → q < sizes.regions * sizes.blocks) → q < sizes.regions * sizes.blocks
        step true rest any later = rest refl
        step false rest any later = later rest any
