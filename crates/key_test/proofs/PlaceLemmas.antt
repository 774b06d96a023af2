-- The place of an object's words on the primary of its region.
use Rattle.std.proofs.Common.{◌≡◌, ℕ, ◌+◌, ◌*◌, ◌^◌, ◌<◌, ◌≤◌, inl, inr, length, get_or, refl, ap, ◌∙◌, arith}
use Rattle.std.proofs.lemmas.List.{get_or-map}
use Rattle.std.proofs.lemmas.Nat.{mul-le}
use Rattle.machine.specs.Places.{object_word, place_of_home, primary_place, IsInPool}
use Rattle.machine.specs.EpochRead.{IsView}
use Rattle.machine.proofs.PlacesLemmas.{primary_place-inside, replicas_of-some}
use Rattle.pointer_fields.specs.Pointer.{region_of, unit_of}
use Rattle.region_view.specs.Layout.{HasWord, NodeWord, Slot, position_of, region_of_word}
use Rattle.region_view.specs.Placed.{Viewed, region_start, replicas_of}
use Rattle.region_view.specs.Sizes.{IsWithinLimits, Sizes, node_words}
use Rattle.verb_words.specs.declared.verbs.Place.{Place}

-- the primary's place of a word, where its region has a replica
primary_place-is : (view : Viewed) (word : NodeWord) → 0 < length (replicas_of view (region_of_word word))
    → primary_place view word ≡ record { node = get_or (replicas_of view (region_of_word word)) 0 0; at = position_of view.shape word }
primary_place-is view word some =
    ap (place_of_home view.shape) (get_or-map (λ node. (node, word)) (replicas_of view (region_of_word word)) 0 0 (0, Slot 0) some)

-- where an object's first word stands, and the others behind it
pub object_place-is : (view : Viewed) (pointer i node at : ℕ) → IsView view → region_of pointer ≤ view.shape.regions
    → node ≡ get_or (replicas_of view (region_of pointer)) 0 0 → at ≡ region_start view.shape (region_of pointer) + 8 * unit_of pointer
    → primary_place view (object_word pointer i) ≡ record { node = node; at = at + i }
object_place-is view pointer i node at is within first stands =
    let position : position_of view.shape (object_word pointer i) ≡ at + i = omega (arith, stands) in
    primary_place-is view (object_word pointer i) (replicas_of-some view (region_of pointer) is within) ∙ rw (position, first) refl

-- a memory node has fewer than 2^21 words
node_words-below : (sizes : Sizes) → IsWithinLimits sizes → node_words sizes < 2 ^ 21
node_words-below sizes limits =
    let most = mul-le sizes.regions (128 + 512 * sizes.blocks) 63 (128 + 512 * 64) limits.regions.1 (omega (arith, limits.blocks)) in
    let groups = limits.groups in
    omega (arith, most)

pub in_pool-below : (sizes : Sizes) (place : Place) → IsWithinLimits sizes → IsInPool sizes place → place.at < 2 ^ 21
in_pool-below sizes place limits inside = elim inside [
  | inl control ↦ omega (arith, control.1)
  | inr memory ↦ omega (arith, memory.2, node_words-below sizes limits)
]

-- the first word's position is as small
pub object_place-below : (view : Viewed) (pointer node at : ℕ) → IsView view → HasWord view.shape (object_word pointer 0)
    → node ≡ get_or (replicas_of view (region_of pointer)) 0 0 → at ≡ region_start view.shape (region_of pointer) + 8 * unit_of pointer → at < 2 ^ 21
object_place-below view pointer node at is has first stands =
    let here = object_place-is view pointer 0 node at is has.1 first stands in
    let below = in_pool-below view.shape (primary_place view (object_word pointer 0)) is.limits (primary_place-inside view (object_word pointer 0) is has has.1) in
    omega (arith, ap (λ (place : Place). place.at) here)
