-- The places of a slot: those at hand are its homes', there are few, and the primary's is none of the backups'.
use Rattle.std.proofs.Common.{◌≡◌, ◌≢◌, ℕ, ◌+◌, ◌*◌, ◌<◌, ◌≤◌, List, [], ◌∷◌, length, map, get_or, refl, sym, ap, ◌∙◌, subst, arith}
use Rattle.std.specs.Prelude.{AllPairs}
use Rattle.std.proofs.lemmas.List.{get_or-map, length-map}
use Rattle.std.proofs.lemmas.List.FromFn.{length-map-range_with_len}
use Rattle.std.proofs.lemmas.List.Sums.{count_by-le-length, length-filter}
use Rattle.machine.specs.Places.{Home, IsInPool, backup_count, place_at, slot_backup, slot_homes_of, slot_primary, with_shadow}
use Rattle.region_view.specs.Layout.{Slot, Shadow}
use Rattle.region_view.specs.Placed.{Viewed, in_mask, placed_node, placed_nodes, replicas_of}
use Rattle.region_view.specs.Places as region
use Rattle.region_view.specs.Sizes.{IsWithinLimits, Sizes}
use Rattle.region_view.proofs.PlacedLemmas.{replicas_of-different}
use Rattle.machine.specs.SlotWrite.{IsSlotWrite, SlotWrite}
use Rattle.machine.proofs.PlacesLemmas.{place_at-inside, slot_homes_of-are}
use Rattle.snapshot_write.specs.States.{IsHeld, homes, pair_of}
use Rattle.verb_words.specs.declared.verbs.Place.{Place}

-- ---- the slot's places

-- the slot on a node
abbrev home_on : ℕ → ℕ → Home
home_on slot node = (node, Slot slot)

slots-pairs : (sizes : Sizes) (slot : ℕ) (nodes : List ℕ) → map (pair_of sizes) (map (home_on slot) nodes) ≡ map (λ n. (n, slot)) nodes
slots-pairs sizes slot [] = refl
slots-pairs sizes slot (node ∷ nodes) =
    let first : 0 + slot ≡ slot = omega arith in
    rw (first, slots-pairs sizes slot nodes) refl

with_shadow-pairs : (sizes : Sizes) (slot : ℕ) (nodes : List ℕ) → map (pair_of sizes) (with_shadow slot nodes) ≡ region.with_shadow (24 * sizes.groups) slot nodes
with_shadow-pairs sizes slot [] = refl
with_shadow-pairs sizes slot (node ∷ []) =
    let first : 0 + slot ≡ slot = omega arith in
    let second : 0 + (24 * sizes.groups + slot) ≡ 24 * sizes.groups + slot = omega arith in
    rw (first, second) refl
with_shadow-pairs sizes slot (node ∷ other ∷ nodes) = slots-pairs sizes slot (node ∷ other ∷ nodes)

-- the places of a slot's homes are the slot's places
pub slot_homes_of-places : (view : Viewed) (slot : ℕ) → map (pair_of view.shape) (slot_homes_of view slot) ≡ region.slot_places_of view slot
slot_homes_of-places view slot = with_shadow-pairs view.shape slot (replicas_of view 0)

-- ---- there are few

few_replicas : (view : Viewed) → IsWithinLimits view.shape → length (replicas_of view 0) ≤ 5
few_replicas view limits =
    let f : ℕ → ℕ = placed_node view.shape 0 in
    let few = limits.replicas in
    omega (arith, length-map-range_with_len f 0 view.shape.replicas, length-filter (in_mask view.mask) (placed_nodes view.shape 0), count_by-le-length (in_mask view.mask) (placed_nodes view.shape 0))

with_shadow-few : (slot : ℕ) (nodes : List ℕ) → length nodes ≤ 5 → length (with_shadow slot nodes) ≤ 5
with_shadow-few slot [] few = omega arith
with_shadow-few slot (node ∷ []) few = omega arith
with_shadow-few slot (node ∷ other ∷ nodes) few = rw (length-map nodes (home_on slot)) few

pub slot_homes_of-few : (view : Viewed) (slot : ℕ) → IsWithinLimits view.shape → length (slot_homes_of view slot) ≤ 5
slot_homes_of-few view slot limits = with_shadow-few slot (replicas_of view 0) (few_replicas view limits)

-- ---- the primary's place is none of the backups'

with_shadow-apart : (sizes : Sizes) (slot i : ℕ) (nodes : List ℕ) → IsWithinLimits sizes → AllPairs (λ one other. one ≢ other) nodes → i + 1 < length (with_shadow slot nodes)
    → place_at sizes (with_shadow slot nodes) (i + 1) ≢ place_at sizes (with_shadow slot nodes) 0
with_shadow-apart sizes slot i [] limits apart within same = omega arith
with_shadow-apart sizes slot i (node ∷ []) limits apart within same =
    let first : i ≡ 0 = omega arith in
    let groups = limits.groups in
    let at = ap (λ (place : Place). place.at) same in
    let shadow : 0 + (24 * sizes.groups + slot) ≡ 0 + slot = ap (λ (k : ℕ). (place_at sizes ((node, Slot slot) ∷ (node, Shadow slot) ∷ []) (k + 1)).at) (sym first) ∙ at in
    omega arith
with_shadow-apart sizes slot i (node ∷ other ∷ nodes) limits apart within same =
    let long = length-map nodes (home_on slot) in
    let here = get_or-map (home_on slot) (node ∷ other ∷ nodes) (i + 1) 0 (0, Slot 0) (omega arith) in
    let is : get_or (node ∷ other ∷ nodes) (i + 1) 0 ≡ node = sym (ap (λ (home : Home). home.0) here) ∙ ap (λ (place : Place). place.node) same in
    apart 0 (i + 1) 0 (omega arith) (omega arith) (sym is)

pub primary_is_no_backup : (view : Viewed) (slot backup : ℕ) → IsWithinLimits view.shape → backup < backup_count view slot → slot_backup view slot backup ≢ slot_primary view slot
primary_is_no_backup view slot backup limits within =
    with_shadow-apart view.shape slot backup (replicas_of view 0) limits (replicas_of-different view 0 limits) (omega arith)

-- ---- the places at hand

-- a place at hand is that of the slot's home
held_place : (write now : SlotWrite) (places items : List (ℕ × ℕ)) (i : ℕ) → IsHeld write places → write ≡ now → items ≡ places → i < length (homes now)
    → record { node = (get_or items i (0, 0)).0; at = (get_or items i (0, 0)).1 } ≡ place_at now.view.shape (homes now) i
held_place write now places items i held is same within =
    let all : items ≡ map (pair_of now.view.shape) (homes now) = same ∙ held.places_are ∙ ap (λ (w : SlotWrite). map (pair_of w.view.shape) (homes w)) is in
    let one = ap (λ l. get_or l i (0, 0)) all ∙ get_or-map (pair_of now.view.shape) (homes now) i (0, Slot 0) (0, 0) within in
    ap (λ (pair : ℕ × ℕ). record { node = pair.0; at = pair.1 }) one

-- so it is in the pool
pub held_place-inside : (write now : SlotWrite) (places items : List (ℕ × ℕ)) (i : ℕ) → IsHeld write places → write ≡ now → items ≡ places → i < length (homes now)
    → IsInPool now.view.shape (record { node = (get_or items i (0, 0)).0; at = (get_or items i (0, 0)).1 })
held_place-inside write now places items i held is same within =
    let state : IsSlotWrite now.view now = subst (λ (w : SlotWrite). IsSlotWrite w.view w) is held.under_way.state in
    let limits = state.is_view.limits in
    subst (IsInPool now.view.shape) (sym (held_place write now places items i held is same within))
    (place_at-inside now.view.shape (homes now) i limits (slot_homes_of-are now.view now.slot limits state.slot) within)
