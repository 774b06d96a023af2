-- The masks that leave each region a replica, by the test and by the fact.
use Rattle.std.proofs.Common.{◌≡◌, ℕ, ◌+◌, ◌≤◌, if◌then◌else◌, Bool, true, false, Option, Some, None, subst, List, length, get_or, sym, ◌∙◌, zero-add, arith}
use Rattle.std.specs.List.{list_any, range_with_len}
use Rattle.std.proofs.lemmas.List.Elements.{All-from_get_or}
use Rattle.std.proofs.lemmas.List.Folds.{list_all_at, list_any-from_Any, list_any_none}
use Rattle.std.proofs.lemmas.List.FromFn.{get_or-map-range_with_len, get_or-range_with_len, length-map-range_with_len, length-range_with_len}
use Rattle.std.proofs.lemmas.List.Sums.{list_all-from_AllPass}
use Rattle.std.proofs.lemmas.Option.{option_and_then_some}
use Rattle.machine.specs.EpochRead.{IsView, leaves_none_bare, mask_of, open_mask}
use Rattle.machine.proofs.ObjectNamesLemmas.{checked}
use Rattle.region_view.specs.Epoch.{epoch_in}
use Rattle.region_view.specs.Placed.{HasReplica, IsBare, LeavesNoneBare, Viewed, in_mask, placed_node, placed_nodes}
use Rattle.region_view.specs.Sizes.{IsWithinLimits, Sizes}

has_replica-test : (sizes : Sizes) (mask region : ℕ) → HasReplica sizes mask region → list_any (in_mask mask) (placed_nodes sizes region) ≡ true
has_replica-test sizes mask region has =
    let f : ℕ → ℕ = placed_node sizes region in
    let long : length (placed_nodes sizes region) ≡ sizes.replicas = length-map-range_with_len f 0 sizes.replicas in
    let is = get_or-map-range_with_len f 0 sizes.replicas has.0 has.0 (f has.0) has.1 (zero-add has.0) in
    list_any-from_Any (in_mask mask) (placed_nodes sizes region) (has.0, f has.0, omega arith, is, has.2)

pub IsView-of : (view : Viewed) → IsWithinLimits view.shape → LeavesNoneBare view.shape view.mask → IsView view
unfolding leaves_none_bare
IsView-of view limits full =
    let test = λ (region : ℕ). list_any (in_mask view.mask) (placed_nodes view.shape region) in
    let numbers : List ℕ = range_with_len 0 (view.shape.regions + 1) in
    let long : length numbers ≡ view.shape.regions + 1 = length-range_with_len 0 (view.shape.regions + 1) in
    record {
      limits = limits;
      covers = list_all-from_AllPass test numbers (All-from_get_or (λ region. test region ≡ true) numbers 0 (λ i below.
          let is : get_or numbers i 0 ≡ i = get_or-range_with_len 0 (view.shape.regions + 1) i 0 (omega arith) ∙ zero-add i in
          has_replica-test view.shape view.mask (get_or numbers i 0) (full (get_or numbers i 0) (omega arith))));
    }

bare-test : (sizes : Sizes) (mask region : ℕ) → IsBare sizes mask region → list_any (in_mask mask) (placed_nodes sizes region) ≡ false
bare-test sizes mask region bare =
    let f : ℕ → ℕ = placed_node sizes region in
    let long : length (placed_nodes sizes region) ≡ sizes.replicas = length-map-range_with_len f 0 sizes.replicas in
    list_any_none (in_mask mask) (placed_nodes sizes region) (All-from_get_or (λ node. in_mask mask node ≡ false) (placed_nodes sizes region) 0 (λ i below.
    let is = get_or-map-range_with_len f 0 sizes.replicas i i 0 (omega arith) (zero-add i) in
    let P : ℕ → Type 0 = λ node. in_mask mask node ≡ false in
    subst P (sym is) (bare i (omega arith))))

-- a region that is left bare fails the test
pub leaves_none_bare-false : (sizes : Sizes) (mask region : ℕ) → region ≤ sizes.regions → IsBare sizes mask region → leaves_none_bare sizes mask ≡ false
unfolding leaves_none_bare
leaves_none_bare-false sizes mask region within bare =
    let test : ℕ → Bool = λ r. list_any (in_mask mask) (placed_nodes sizes r) in
    let numbers : List ℕ = range_with_len 0 (sizes.regions + 1) in
    let long : length numbers ≡ sizes.regions + 1 = length-range_with_len 0 (sizes.regions + 1) in
    let is : get_or numbers region 0 ≡ region = get_or-range_with_len 0 (sizes.regions + 1) region 0 (omega arith) ∙ zero-add region in
    let P : ℕ → Type 0 = λ r. test r ≡ false in
    list_all_at test numbers region 0 (omega arith) (subst P (sym is) (bare-test sizes mask region bare))

-- what opens a mask leaves no region bare
pub open_mask-covers : (sizes : Sizes) (word mask : ℕ) → open_mask sizes word ≡ Some mask → leaves_none_bare sizes mask ≡ true
unfolding open_mask
open_mask-covers sizes word mask opened =
    option_and_then_some (mask_of sizes) (epoch_in word) mask opened (λ epoch said gives.
    let inner = not_sealed epoch.sealed _ mask gives in
    let both = checked (leaves_none_bare sizes epoch.mask) epoch.mask mask inner in
    subst (λ m. leaves_none_bare sizes m ≡ true) both.1 both.0)
  where
    not_sealed : (sealed : Bool) (rest : Option ℕ) (mask : ℕ) → (if sealed then None else rest) ≡ Some mask → rest ≡ Some mask
    not_sealed true rest mask is = absurd cc
    not_sealed false rest mask is = is
