-- A view that a client may hold has a replica of each region.
use Rattle.std.proofs.Common.{◌≡◌, ℕ, ◌+◌, ◌≤◌, ◌<◌, Bool, true, false, List, length, Some, None, get_or, refl, sym, ◌∙◌, subst, zero-add, arith}
use Rattle.std.specs.List.{list_any, range_with_len}
use Rattle.std.proofs.lemmas.List.Folds.{Any-from_list_any}
use Rattle.std.proofs.lemmas.List.FromFn.{get_or-map-range_with_len, get_or-range_with_len, length-map-range_with_len, length-range_with_len}
use Rattle.std.proofs.lemmas.List.Sums.{AllPass-from_list_all}
use Rattle.machine.specs.EpochRead.{IsView, leaves_none_bare, open_mask}
use Rattle.machine.proofs.ViewLemmas.{IsView-of, leaves_none_bare-false}
use Rattle.region_view.specs.declared.epochs.Epoch.{Epoch}
use Rattle.region_view.specs.Epoch.{epoch_in}
use Rattle.region_view.specs.Placed.{IsBare, LeavesNoneBare, Viewed, in_mask, placed_node, placed_nodes}
use Rattle.region_view.specs.Sizes.{IsWithinLimits, Sizes}

pub covers-each : (view : Viewed) → IsView view → LeavesNoneBare view.shape view.mask
unfolding leaves_none_bare
covers-each view is = λ region within.
    let test : ℕ → Bool = λ r. list_any (in_mask view.mask) (placed_nodes view.shape r) in
    let numbers : List ℕ = range_with_len 0 (view.shape.regions + 1) in
    let long : length numbers ≡ view.shape.regions + 1 = length-range_with_len 0 (view.shape.regions + 1) in
    let one : test (get_or numbers region 0) ≡ true = AllPass-from_list_all test numbers is.covers region 0 (omega arith) in
    let here : get_or numbers region 0 ≡ region = get_or-range_with_len 0 (view.shape.regions + 1) region 0 (omega arith) ∙ zero-add region in
    let f : ℕ → ℕ = placed_node view.shape region in
    let any = Any-from_list_any (in_mask view.mask) (placed_nodes view.shape region) (subst (λ r. test r ≡ true) here one) in
    let many : length (placed_nodes view.shape region) ≡ view.shape.replicas = length-map-range_with_len f 0 view.shape.replicas in
    let below : any.0 < view.shape.replicas = omega (arith, any.2) in
    let is_node = get_or-map-range_with_len f 0 view.shape.replicas any.0 any.0 any.1 below (zero-add any.0) in
    let P : ℕ → Type 0 = λ n. in_mask view.mask n ≡ true in
    (any.0, below, subst P is_node (subst P (sym any.3) any.4))

-- What a word opens: no mask where it says no epoch, where it is sealed, or where a region is left bare.

pub opens_none : (sizes : Sizes) (word : ℕ) → epoch_in word ≡ None → open_mask sizes word ≡ None
unfolding open_mask
opens_none sizes word none = rw none refl

pub opens_none_sealed : (sizes : Sizes) (word : ℕ) (epoch : Epoch) → epoch_in word ≡ Some epoch → epoch.sealed ≡ true → open_mask sizes word ≡ None
unfolding open_mask
opens_none_sealed sizes word epoch said sealed = rw (said, sealed) refl

pub opens_none_bare : (sizes : Sizes) (word : ℕ) (epoch : Epoch) → epoch_in word ≡ Some epoch → epoch.sealed ≡ false
    → (region : ℕ) × (region ≤ sizes.regions) × IsBare sizes epoch.mask region → open_mask sizes word ≡ None
unfolding open_mask
opens_none_bare sizes word epoch said open' bare = rw (said, open', leaves_none_bare-false sizes epoch.mask bare.0 bare.1 bare.2) refl

pub opens_mask : (sizes : Sizes) (word : ℕ) (epoch : Epoch) → IsWithinLimits sizes → epoch_in word ≡ Some epoch → epoch.sealed ≡ false
    → LeavesNoneBare sizes epoch.mask → open_mask sizes word ≡ Some epoch.mask
unfolding open_mask
opens_mask sizes word epoch limits said open' covers =
    let is = IsView-of (record { shape = sizes; mask = epoch.mask }) limits covers in
    rw (said, open', is.covers) refl
