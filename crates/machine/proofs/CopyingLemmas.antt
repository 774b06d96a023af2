-- The places that a settling reads and writes lie in the pool, and each source is a live node.
use Rattle.std.proofs.Common.{◌≡◌, ℕ, zero, suc, ◌+◌, ◌-◌, ◌*◌, ◌<◌, ◌≤◌, ◌==◌, inr, Bool, true, false, List, [], length, filter, min, refl, arith, ◌≢◌, ◌∷◌, length-append, ap, ◌∙◌}
use Rattle.std.specs.Int.{bit_at}
use Rattle.std.specs.Prelude.{All, bit_and, slice_index_or}
use Rattle.std.specs.List.{Contains}
use Rattle.std.proofs.lemmas.Bool.Decides.{nat_tests}
use Rattle.std.proofs.lemmas.List.{length-map}
use Rattle.std.proofs.lemmas.List.Elements.{All-append, All-filter, All-from_get_or, All-get_or, All-map, Contains-append_left, Contains-append_right}
use Rattle.std.proofs.lemmas.List.FromFn.{length-map-range_with_len}
use Rattle.std.proofs.lemmas.Nat.Bits.{bit_at-lt, bit_at_and}
use Rattle.machine.specs.Copying.{copied_words, is_on_other, other_places, read_place_of, shadow_places, sources_of, written_places_of}
use Rattle.machine.specs.EpochRead.{IsView}
use Rattle.machine.specs.Places.{IsInPool}
use Rattle.machine.specs.Settling.{place_of_pair}
use Rattle.machine.proofs.PlacesLemmas.{IsNode, replicas_of-nodes, replicas_of-some}
use Rattle.region_view.proofs.LayoutLemmas.{position_of-inside}
use Rattle.region_view.specs.Layout.{UnitWord}
use Rattle.region_view.specs.Placed.{placed_node, placed_nodes, Viewed, in_mask, region_size, region_start, replicas_of}
use Rattle.region_view.specs.Places.{word_places_of}
use Rattle.region_view.specs.Sizes.{IsWithinLimits, Sizes, node_words, region_words}

is_not_index : (region : ℕ) → (suc region == 0) ≡ false
is_not_index region = grind (arith, nat_tests)

region_size-data : (sizes : Sizes) (region : ℕ) → region_size sizes (suc region) ≡ region_words sizes
region_size-data sizes region = rw (is_not_index region) refl

copied_words-data : (sizes : Sizes) (region : ℕ) → copied_words sizes (suc region) ≡ region_words sizes
copied_words-data sizes region = rw (is_not_index region) refl

-- each word of a region lies on its nodes
word_inside : (sizes : Sizes) (region offset : ℕ) → IsWithinLimits sizes → region ≤ sizes.regions → offset < region_size sizes region → region_start sizes region + offset < node_words sizes
word_inside sizes zero offset limits within below = omega arith
word_inside sizes (suc region) offset limits within below =
    let some = limits.blocks in
    let last : region_start sizes (suc region) + (8 * (15 + 64 * sizes.blocks) + 7) < node_words sizes
    = position_of-inside sizes (UnitWord (suc region) (15 + 64 * sizes.blocks) 7) limits (omega arith, within, omega arith, omega arith, omega arith) in
    let size = region_size-data sizes region in
    omega arith

-- a word that is copied is one of its region
pub copied-within : (sizes : Sizes) (region offset : ℕ) → offset < copied_words sizes region → offset < region_size sizes region
copied-within sizes zero offset below = omega arith
copied-within sizes (suc region) offset below = omega (arith, copied_words-data sizes region, region_size-data sizes region)

-- a node of the pool and a position on it
pub record IsInside (sizes : Sizes) (pair : ℕ × ℕ) : Type 0 where
  pub node : IsNode sizes pair.0
  pub at : pair.1 < node_words sizes

pub place-inside : (sizes : Sizes) (pair : ℕ × ℕ) → IsInside sizes pair → IsInPool sizes (place_of_pair pair)
place-inside sizes pair is = inr (is.node.least, is.node.most, is.at)

places_inside : (view : Viewed) (region offset : ℕ) → IsWithinLimits view.shape → region ≤ view.shape.regions → offset < region_size view.shape region
    → All (IsInside view.shape) (word_places_of view region offset)
places_inside view region offset limits within below =
    let at : ℕ = region_start view.shape region + offset in
    let nodes : List ℕ = replicas_of view region in
    let inside = word_inside view.shape region offset limits within below in
    All-map (IsInside view.shape) (λ node. (node, at)) nodes
    (All-from_get_or (λ node. IsInside view.shape (node, at)) nodes 0
    (λ i under. record { node = All-get_or (IsNode view.shape) nodes i 0 under (replicas_of-nodes view region limits); at = inside }))

pub read_place_of-inside : (source : Viewed) (region offset : ℕ) → IsView source → region ≤ source.shape.regions → offset < copied_words source.shape region
    → IsInside source.shape (read_place_of source region offset)
read_place_of-inside source region offset is within below =
    let nodes : List ℕ = replicas_of source region in
    let long : length (word_places_of source region offset) ≡ length nodes = length-map nodes (λ node. (node, region_start source.shape region + offset)) in
    let some = replicas_of-some source region is within in
    places_inside source region offset is.limits within (copied-within source.shape region offset below) 0 (0, 0) (omega arith)

shadows_inside : (view : Viewed) (region slot : ℕ) → IsWithinLimits view.shape → slot < copied_words view.shape region → All (IsInside view.shape) (shadow_places view region slot)
shadows_inside view zero slot limits below = places_inside view 0 (24 * view.shape.groups + slot) limits (omega arith) (omega arith)
shadows_inside view (suc region) slot limits below = rw (is_not_index region) (λ k d under. absurd (omega arith))

pub written_places_of-inside : (source fresh : Viewed) (region offset : ℕ) → IsWithinLimits fresh.shape → region ≤ fresh.shape.regions → offset < copied_words fresh.shape region
    → All (IsInside fresh.shape) (written_places_of source fresh region offset)
written_places_of-inside source fresh region offset limits within below =
    let read : ℕ = (read_place_of source region offset).0 in
    All-append (IsInside fresh.shape) (other_places fresh read region offset) (shadow_places fresh region offset)
    (All-filter (is_on_other read) (IsInside fresh.shape) (word_places_of fresh region offset)
    (places_inside fresh region offset limits within (copied-within fresh.shape region offset below)))
    (shadows_inside fresh region offset limits below)

-- each source is a live node
pub sources_of-within : (old live node : ℕ) → in_mask (sources_of old live) node ≡ true → in_mask live node ≡ true
sources_of-within old live node is =
    let both : bit_at (bit_and old live) (node - 1) ≡ min (bit_at old (node - 1)) (bit_at live (node - 1)) = bit_at_and old live (node - 1) in
    let few = bit_at-lt live (node - 1) in
    grind (arith, nat_tests)

-- an element that passes a test is kept
kept : {X : Type 0} (p : X → Bool) (xs : List X) (x : X) → Contains xs x → p x ≡ true → Contains (filter p xs) x
kept p [] x has passes = absurd (omega (arith, has.1))
kept p (y ∷ ys) x has passes = at has.0 has.1 has.2 (λ rest. kept p ys x rest passes)
  where
    later : (t : Bool) → p y ≡ t → Contains (filter p ys) x → Contains (filter p (y ∷ ys)) x
    later true is rest = rw is (suc rest.0, omega (arith, rest.1), rest.2)
    later false is rest = rw is rest

    at : (k : ℕ) → k < length (y ∷ ys) → slice_index_or (y ∷ ys) k x ≡ x → (Contains ys x → Contains (filter p ys) x) → Contains (filter p (y ∷ ys)) x
    at zero below is rest = let first : p y ≡ true = ap p is ∙ passes in rw first (0, omega arith, is)
    at (suc k) below is rest = later (p y) refl (rest (k, omega arith, is))

-- a word goes to its place on each replica of the new mask but the one that was read
pub written_places_of-others : (source fresh : Viewed) (region offset : ℕ) (place : ℕ × ℕ) → Contains (word_places_of fresh region offset) place
    → place.0 ≢ (read_place_of source region offset).0 → Contains (written_places_of source fresh region offset) place
written_places_of-others source fresh region offset place has other =
    let read : ℕ = (read_place_of source region offset).0 in
    let passes : is_on_other read place ≡ true = grind (arith, nat_tests) in
    Contains-append_left (other_places fresh read region offset) (shadow_places fresh region offset) place
    (kept (is_on_other read) (word_places_of fresh region offset) place has passes)

-- a slot's word goes to its shadows too
pub written_places_of-shadows : (source fresh : Viewed) (slot : ℕ) (place : ℕ × ℕ) → Contains (word_places_of fresh 0 (24 * fresh.shape.groups + slot)) place
    → Contains (written_places_of source fresh 0 slot) place
written_places_of-shadows source fresh slot place has =
    Contains-append_right (other_places fresh (read_place_of source 0 slot).0 0 slot) (shadow_places fresh 0 slot) place has

filtered-few : {X : Type 0} (p : X → Bool) (xs : List X) → length (filter p xs) ≤ length xs
filtered-few p [] = omega arith
filtered-few p (x ∷ xs) = by (p x) refl (filtered-few p xs)
  where
    by : (t : Bool) → p x ≡ t → length (filter p xs) ≤ length xs → length (filter p (x ∷ xs)) ≤ length (x ∷ xs)
    by true is rest = rw is (omega arith)
    by false is rest = rw is (omega arith)

word_places_of-few : (view : Viewed) (region offset : ℕ) → IsWithinLimits view.shape → length (word_places_of view region offset) ≤ 5
word_places_of-few view region offset limits =
    let nodes : List ℕ = placed_nodes view.shape region in
    let places : length (word_places_of view region offset) ≡ length (replicas_of view region) = length-map (replicas_of view region) (λ node. (node, region_start view.shape region + offset)) in
    let placed : length nodes ≡ view.shape.replicas = length-map-range_with_len (placed_node view.shape region) 0 view.shape.replicas in
    omega (arith, filtered-few (in_mask view.mask) nodes, limits.replicas)

shadow_places-few : (view : Viewed) (region offset : ℕ) → IsWithinLimits view.shape → length (shadow_places view region offset) ≤ 5
shadow_places-few view zero offset limits = word_places_of-few view 0 (24 * view.shape.groups + offset) limits
shadow_places-few view (suc region) offset limits = rw (is_not_index region) (omega arith)

-- there are at most ten
pub written_places_of-few : (source fresh : Viewed) (region offset : ℕ) → IsWithinLimits fresh.shape → length (written_places_of source fresh region offset) ≤ 10
written_places_of-few source fresh region offset limits =
    let read : ℕ = (read_place_of source region offset).0 in
    let others = filtered-few (is_on_other read) (word_places_of fresh region offset) in
    omega (
      arith,
      others,
      word_places_of-few fresh region offset limits,
      shadow_places-few fresh region offset limits,
      length-append (other_places fresh read region offset) (shadow_places fresh region offset),
    )
