-- What a view, an object and a word of a slot stand for.
use Rattle.std.proofs.Common.{◌≡◌, ◌≢◌, ℕ, ◌+◌, ◌/◌, ◌^◌, ◌<◌, ◌≤◌, Bool, true, false, List, Some, None, length, map, get_or, refl, sym, ap, ◌∙◌, subst, zero-add, arith}
use Rattle.std.specs.List.{list_any, range_with_len}
use Rattle.std.proofs.lemmas.List.Folds.{Any-from_list_any}
use Rattle.std.proofs.lemmas.List.FromFn.{get_or-map-range_with_len, get_or-range_with_len, length-map-range_with_len, length-range_with_len}
use Rattle.std.proofs.lemmas.List.Sums.{AllPass-from_list_all}
use Rattle.std.proofs.Math.Nat.{div-lt_iff_lt-mul}
use Rattle.std.proofs.lemmas.Bool.{lt-ltb}
use Rattle.std.proofs.lemmas.List.{length-map}
use Rattle.client_recovery.specs.Progresses.{IsKept}
use Rattle.key_test.proofs.StateLemmas.{first_word-has}
use Rattle.machine.specs.EpochRead.{IsView, leaves_none_bare, open_mask}
use Rattle.machine.specs.ObjectNames.{IsObject, Object, pointer_in}
use Rattle.machine.specs.Places.{homes_of, object_word, pair_of, replica_count, written_place}
use Rattle.machine.specs.Recovery.{fresh_of}
use Rattle.machine.specs.RecoveryStage as machine
use Rattle.machine.specs.RecoveryStage.{HasBlock, IsSlotWith, Recovery, Spread, view_of, word_at_block}
use Rattle.machine.proofs.PlacesLemmas.{replica_count-some}
use Rattle.machine.proofs.ViewLemmas.{IsView-of, leaves_none_bare-false}
use Rattle.object_alloc.proofs.PlaceLemmas.{pair_written, replica_count_few}
use Rattle.object_alloc.specs.Parts.{written_replica}
use Rattle.machine.proofs.ObjectNamesLemmas.{names_object-says, object_in-is, object_in-pointer}
use Rattle.object_form.proofs.ClassLemmas.{units_of-bounds}
use Rattle.object_form.specs.Class.{units_of}
use Rattle.race_slot.specs.Slot.{IsSlot}
use Rattle.region_view.specs.declared.epochs.Epoch.{Epoch}
use Rattle.region_view.specs.Epoch.{epoch_in}
use Rattle.region_view.specs.Layout.{HasWord, NodeWord}
use Rattle.region_view.specs.Placed.{IsBare, LeavesNoneBare, Viewed, in_mask, placed_node, placed_nodes}
use Rattle.region_view.specs.Sizes.{IsWithinLimits, Sizes}

-- a view that may be held leaves no region bare
pub covered : (view : Viewed) → IsView view → LeavesNoneBare view.shape view.mask
unfolding leaves_none_bare
covered view is = λ region within.
    let test : ℕ → Bool = λ r. list_any (in_mask view.mask) (placed_nodes view.shape r) in
    let numbers : List ℕ = range_with_len 0 (view.shape.regions + 1) in
    let long : length numbers ≡ view.shape.regions + 1 = length-range_with_len 0 (view.shape.regions + 1) in
    let all = AllPass-from_list_all test numbers is.covers in
    let one : test (get_or numbers region 0) ≡ true = all region 0 (omega arith) in
    let here : get_or numbers region 0 ≡ region = get_or-range_with_len 0 (view.shape.regions + 1) region 0 (omega arith) ∙ zero-add region in
    let P : ℕ → Type 0 = λ r. test r ≡ true in
    let found = Any-from_list_any (in_mask view.mask) (placed_nodes view.shape region) (subst P here one) in
    let f : ℕ → ℕ = placed_node view.shape region in
    let count : length (placed_nodes view.shape region) ≡ view.shape.replicas = length-map-range_with_len f 0 view.shape.replicas in
    let below : found.0 < view.shape.replicas = omega arith in
    let node : f found.0 ≡ found.1 = sym (get_or-map-range_with_len f 0 view.shape.replicas found.0 found.0 found.1 below (zero-add found.0)) ∙ found.3 in
    let Q : ℕ → Type 0 = λ n. in_mask view.mask n ≡ true in
    (found.0, below, subst Q (sym node) found.4)

-- the slot of an object of the pool
pub slot-is : (sizes : Sizes) (given object : Object) (finger units : ℕ) → IsObject sizes object → given ≡ object → finger < 2 ^ 8 → units ≡ units_of given.class
    → IsSlot (record { finger = finger; units = units; pointer = given.pointer })
slot-is sizes given object finger units is same small count =
    let P : Object → Type 0 = λ o. IsObject sizes o in
    let here : IsObject sizes given = subst P (sym same) is in
    let says = names_object-says sizes given.class given.pointer here.named in
    let bounds = units_of-bounds given.class here.class in
    record { finger = small; units = omega arith; units_below = omega arith; pointer = says.below; region = says.region.0 }

-- the fresh word is that of no empty slot
pub fresh_some : (recovery : Recovery) → IsObject recovery.shape recovery.object → fresh_of recovery ≢ 0
fresh_some recovery is = λ same. let bounds = units_of-bounds recovery.object.class is.class in absurd (omega arith)

-- the object that a slot's word names
pub named-has : (sizes : Sizes) (slot word : ℕ) → IsSlotWith sizes slot word → HasWord sizes (object_word (pointer_in word) 0)
named-has sizes slot word is =
    let P : ℕ → Type 0 = λ p. HasWord sizes (object_word p 0) in
    subst P (object_in-pointer sizes word is.object is.named) (first_word-has sizes is.object (object_in-is sizes word is.object is.named))

-- The mask that an epoch word opens.

pub sealed_opens_none : (sizes : Sizes) (word : ℕ) (epoch : Epoch) → epoch_in word ≡ Some epoch → epoch.sealed ≡ true → open_mask sizes word ≡ None
unfolding open_mask
sealed_opens_none sizes word epoch says sealed = rw says (rw sealed refl)

pub bare_opens_none : (sizes : Sizes) (word : ℕ) (epoch : Epoch) (region : ℕ) → epoch_in word ≡ Some epoch → epoch.sealed ≡ false → region ≤ sizes.regions → IsBare sizes epoch.mask region → open_mask sizes word ≡ None
unfolding open_mask
bare_opens_none sizes word epoch region says unsealed within bare = rw says (rw (unsealed, leaves_none_bare-false sizes epoch.mask region within bare) refl)

pub opens : (sizes : Sizes) (word : ℕ) (epoch : Epoch) → epoch_in word ≡ Some epoch → epoch.sealed ≡ false → IsWithinLimits sizes → LeavesNoneBare sizes epoch.mask → open_mask sizes word ≡ Some epoch.mask
unfolding open_mask
opens sizes word epoch says unsealed limits full =
    let is : IsView (record { shape = sizes; mask = epoch.mask }) = IsView-of (record { shape = sizes; mask = epoch.mask }) limits full in
    rw says (rw (unsealed, is.covers) refl)

-- The block at the position.

block-region : (recovery : Recovery) → HasBlock recovery → 1 + recovery.position / recovery.shape.blocks ≤ recovery.shape.regions
block-region recovery has =
    let some : 0 < recovery.shape.blocks = omega (arith, has.0.limits.blocks) in
    let region : recovery.position / recovery.shape.blocks < recovery.shape.regions = (div-lt_iff_lt-mul some).1 has.1 in
    omega arith

pub block_some : (recovery : Recovery) → HasBlock recovery → 0 < replica_count (view_of recovery) (word_at_block recovery)
block_some recovery has = replica_count-some (view_of recovery) (word_at_block recovery) has.0 (block-region recovery has)

pub few_backups : (recovery : Recovery) (class backup : ℕ) → IsKept recovery → recovery.stage ≡ Spread class backup → backup + 1 ≤ 5
few_backups recovery class backup kept at =
    let P : machine.Stage → Type 0 = λ s. machine.IsAt s recovery in
    let here : machine.IsAt (Spread class backup) recovery = subst P at kept.stage in
    omega (arith, here.2, replica_count_few (view_of recovery) (word_at_block recovery) kept.limits)

-- a backup's place is the one at which the word is written in its turn
pub backup-place : (view : Viewed) (word : NodeWord) (backup : ℕ) (pairs : List (ℕ × ℕ)) → pairs ≡ map (pair_of view.shape) (homes_of view word) → backup + 1 < replica_count view word
    → record { node = (get_or pairs (backup + 1) (0, 0)).0; at = (get_or pairs (backup + 1) (0, 0)).1 } ≡ written_place view word backup
backup-place view word backup pairs are more =
    let long : length pairs ≡ length (homes_of view word) = ap length are ∙ length-map (homes_of view word) (pair_of view.shape) in
    let turn : backup + 1 ≡ written_replica backup (length pairs) = rw (lt-ltb (backup + 1) (length pairs) (omega arith)) refl in
    pair_written view word backup (backup + 1) pairs are (omega arith) turn
