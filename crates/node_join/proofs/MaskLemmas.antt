-- The masks that leave each region a replica, by the test and by the fact.
use Rattle.std.proofs.Common.{◌≡◌, ℕ, ◌+◌, ◌<◌, Bool, true, List, length, get_or, sym, subst, ◌∙◌, zero-add, arith}
use Rattle.std.specs.List.{list_any, range_with_len}
use Rattle.std.proofs.lemmas.List.Folds.{Any-from_list_any}
use Rattle.std.proofs.lemmas.List.FromFn.{get_or-map-range_with_len, get_or-range_with_len, length-map-range_with_len, length-range_with_len}
use Rattle.std.proofs.lemmas.List.Sums.{AllPass-from_list_all}
use Rattle.machine.specs.EpochRead.{leaves_none_bare}
use Rattle.machine.proofs.ViewLemmas.{IsView-of}
use Rattle.region_view.specs.Placed.{HasReplica, LeavesNoneBare, in_mask, placed_node, placed_nodes}
use Rattle.region_view.specs.Sizes.{IsWithinLimits, Sizes}

-- a region of which a node passes has a replica
has_replica : (sizes : Sizes) (mask region : ℕ) → list_any (in_mask mask) (placed_nodes sizes region) ≡ true → HasReplica sizes mask region
has_replica sizes mask region any =
    let found = Any-from_list_any (in_mask mask) (placed_nodes sizes region) any in
    let f : ℕ → ℕ = placed_node sizes region in
    let long : length (placed_nodes sizes region) ≡ sizes.replicas = length-map-range_with_len f 0 sizes.replicas in
    let below : found.0 < sizes.replicas = omega (arith, found.2) in
    let is : get_or (placed_nodes sizes region) found.0 found.1 ≡ f found.0 = get_or-map-range_with_len f 0 sizes.replicas found.0 found.0 found.1 below (zero-add found.0) in
    let P : ℕ → Type 0 = λ node. in_mask mask node ≡ true in
    (found.0, below, subst P (sym found.3 ∙ is) found.4)

-- a mask that passes the test leaves each region a replica
pub leaves_none_bare-says : (sizes : Sizes) (mask : ℕ) → leaves_none_bare sizes mask ≡ true → LeavesNoneBare sizes mask
unfolding leaves_none_bare
leaves_none_bare-says sizes mask covers region within =
    let test : ℕ → Bool = λ r. list_any (in_mask mask) (placed_nodes sizes r) in
    let numbers : List ℕ = range_with_len 0 (sizes.regions + 1) in
    let long : length numbers ≡ sizes.regions + 1 = length-range_with_len 0 (sizes.regions + 1) in
    let all = AllPass-from_list_all test numbers covers in
    let one : test (get_or numbers region 0) ≡ true = all region 0 (omega arith) in
    let here : get_or numbers region 0 ≡ region = get_or-range_with_len 0 (sizes.regions + 1) region 0 (omega arith) ∙ zero-add region in
    has_replica sizes mask region (let P : ℕ → Type 0 = λ r. test r ≡ true in subst P here one)

-- and a mask that does so passes it
pub leaves_none_bare-true : (sizes : Sizes) (mask : ℕ) → IsWithinLimits sizes → LeavesNoneBare sizes mask → leaves_none_bare sizes mask ≡ true
leaves_none_bare-true sizes mask limits full = (IsView-of (record { shape = sizes; mask = mask }) limits full).covers
