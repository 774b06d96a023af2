-- The replicas of a region, one more placed node at a time.
use Rattle.std.proofs.Common.{◌≡◌, ◌≢◌, ℕ, ◌+◌, ◌*◌, ◌/◌, ◌%◌, ◌<◌, ◌≤◌, ◌⊎◌, inl, inr, Bool, true, false, cond, List, [], ◌∷◌, ◌++◌, length, map, filter, refl, sym, ap, ◌∙◌, arith}
use Rattle.std.specs.Prelude.{AllPairs}
use Rattle.std.specs.List.{range_with_len}
use Rattle.std.proofs.lemmas.Bool.{cases_lt, false≢true}
use Rattle.std.proofs.lemmas.Nat.{rows}
use Rattle.std.proofs.lemmas.List.{map-append}
use Rattle.std.proofs.lemmas.List.FromFn.{filter_of_map_range_with_len_more, get_or-map-range_with_len, length-map-range_with_len}
use Rattle.std.proofs.lemmas.List.Kept.{AllPairs-filter}
use Rattle.region_view.specs.Placed.{Viewed, in_mask, placed_node, placed_nodes, replicas_of}
use Rattle.region_view.specs.Places.{with_shadow}
use Rattle.region_view.specs.Sizes.{IsWithinLimits, Sizes}

pub next_replica : (mask : ℕ) (sizes : Sizes) (region i node : ℕ) (test : Bool) (nodes grown : List ℕ)
    → node ≡ placed_node sizes region i → test ≡ in_mask mask node
    → nodes ≡ filter (in_mask mask) (map (placed_node sizes region) (range_with_len 0 i))
    → grown ≡ nodes ++ cond test (node ∷ []) []
    → grown ≡ filter (in_mask mask) (map (placed_node sizes region) (range_with_len 0 (i + 1)))
next_replica mask sizes region i node test nodes grown is asked made grew =
    let f : ℕ → ℕ = placed_node sizes region in
    let more = filter_of_map_range_with_len_more (in_mask mask) f 0 i i (omega arith) in
    let same : cond test (node ∷ []) [] ≡ cond (in_mask mask (f i)) (f i ∷ []) [] = ap (λ b. cond b (node ∷ []) []) asked ∙ ap (λ n. cond (in_mask mask n) (n ∷ []) []) is in
    grew ∙ ap (λ l. nodes ++ l) same ∙ ap (λ l. l ++ cond (in_mask mask (f i)) (f i ∷ []) []) made ∙ sym more

pub with_shadow-others : (slots slot : ℕ) (nodes : List ℕ) → length nodes ≢ 1 → with_shadow slots slot nodes ≡ map (λ n. (n, slot)) nodes
with_shadow-others slots slot [] differ = refl
with_shadow-others slots slot (node ∷ []) differ = absurd (differ refl)
with_shadow-others slots slot (node ∷ other ∷ nodes) differ = refl

next_row : (q r n : ℕ) → q < r → n * q + n ≤ n * r
next_row q r n below = grind (arith, rows)

-- two numbers that are less than n apart and leave the same remainder by n are equal
same_remainder : (x y n : ℕ) → 1 ≤ n → x < y + n → y < x + n → x % n ≡ y % n → x ≡ y
same_remainder x y n some near near' same = by_order (cases_lt (x / n) (y / n)) (cases_lt (y / n) (x / n))
  where
    by_order : (x / n < y / n) ⊎ (y / n ≤ x / n) → (y / n < x / n) ⊎ (x / n ≤ y / n) → x ≡ y
    by_order (inl below) above = let row = next_row (x / n) (y / n) n below in omega arith
    by_order (inr up) (inl above) = let row = next_row (y / n) (x / n) n above in omega arith
    by_order (inr up) (inr down) =
        let quotient : x / n ≡ y / n = omega arith in
        let row = ap (λ q. n * q) quotient in
        omega arith

placed_apart : (sizes : Sizes) (region i j : ℕ) → IsWithinLimits sizes → i < sizes.replicas → j < sizes.replicas → placed_node sizes region i ≡ placed_node sizes region j → i ≡ j
placed_apart sizes region i j limits within within' same =
    let some = limits.nodes in
    let room = limits.placed in
    let remainder : (region + i) % sizes.nodes ≡ (region + j) % sizes.nodes = omega arith in
    let equal = same_remainder (region + i) (region + j) sizes.nodes (omega arith) (omega arith) (omega arith) remainder in
    omega arith

placed_different : (sizes : Sizes) (region : ℕ) → IsWithinLimits sizes → AllPairs (λ one other. one ≢ other) (map (placed_node sizes region) (range_with_len 0 sizes.replicas))
placed_different sizes region limits i j d before within same =
    let f : ℕ → ℕ = placed_node sizes region in
    let n : ℕ = sizes.replicas in
    let long : length (map f (range_with_len 0 n)) ≡ n = length-map-range_with_len f 0 n in
    let one = get_or-map-range_with_len f 0 n i i d (omega arith) (omega arith) in
    let other = get_or-map-range_with_len f 0 n j j d (omega arith) (omega arith) in
    let equal : i ≡ j = placed_apart sizes region i j limits (omega arith) (omega arith) (sym one ∙ same ∙ other) in
    omega arith

pub replicas_of-different : (view : Viewed) (region : ℕ) → IsWithinLimits view.shape → AllPairs (λ one other. one ≢ other) (replicas_of view region)
replicas_of-different view region limits = AllPairs-filter (λ (one other : ℕ). one ≢ other) (in_mask view.mask) (placed_nodes view.shape region) (placed_different view.shape region limits)

filter_step : (p q : ℕ → Bool) (x : ℕ) (xs : List ℕ) (a b : Bool) → filter p xs ≡ filter p (filter q xs) → (p x ≡ true → q x ≡ true) → p x ≡ a → q x ≡ b
    → cond (p x) (x ∷ filter p xs) (filter p xs) ≡ filter p (cond (q x) (x ∷ filter q xs) (filter q xs))
filter_step p q x xs a true rest stronger one two = rw two (ap (λ l. cond (p x) (x ∷ l) l) rest)
filter_step p q x xs true false rest stronger one two = absurd (false≢true (sym two ∙ stronger one))
filter_step p q x xs false false rest stronger one two = rw (one, two) rest

pub filter_twice : (p q : ℕ → Bool) (xs : List ℕ) → ((x : ℕ) → p x ≡ true → q x ≡ true) → filter p xs ≡ filter p (filter q xs)
filter_twice p q [] stronger = refl
filter_twice p q (x ∷ xs) stronger = filter_step p q x xs (p x) (q x) (filter_twice p q xs stronger) (stronger x) refl refl

-- a place, where the test passes
abbrev pub only : Bool → ℕ × ℕ → List (ℕ × ℕ)
only true place = place ∷ []
only false place = []

-- the same of the places at one position
pub next_place : (mask : ℕ) (sizes : Sizes) (region i node at : ℕ) (test : Bool) (places grown : List (ℕ × ℕ))
    → node ≡ placed_node sizes region i → test ≡ in_mask mask node
    → places ≡ map (λ n. (n, at)) (filter (in_mask mask) (map (placed_node sizes region) (range_with_len 0 i)))
    → grown ≡ places ++ only test (node, at)
    → grown ≡ map (λ n. (n, at)) (filter (in_mask mask) (map (placed_node sizes region) (range_with_len 0 (i + 1))))
next_place mask sizes region i node at test places grown is asked made grew =
    let f : ℕ → ℕ = placed_node sizes region in
    let g : ℕ → ℕ × ℕ = λ n. (n, at) in
    let kept : List ℕ = filter (in_mask mask) (map f (range_with_len 0 i)) in
    let more = next_replica mask sizes region i node test kept (kept ++ cond test (node ∷ []) []) is asked refl refl in
    grew ∙ ap (λ l. l ++ only test (node, at)) made ∙ ap (λ l. map g kept ++ l) (by test) ∙ sym (map-append g kept (cond test (node ∷ []) [])) ∙ ap (map g) more
  where
    by : (t : Bool) → only t (node, at) ≡ map (λ n. (n, at)) (cond t (node ∷ []) [])
    by true = refl
    by false = refl
