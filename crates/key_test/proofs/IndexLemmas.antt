-- The places of slots on the primary of the index.
use Rattle.std.proofs.Common.{◌≡◌, ℕ, ◌+◌, ◌<◌, List, [], ◌∷◌, length, get_or, ap, arith}
use Rattle.machine.specs.EpochRead.{IsView}
use Rattle.machine.specs.Places.{place_at, slot_primary, with_shadow}
use Rattle.machine.proofs.PlacesLemmas.{replicas_of-some}
use Rattle.region_view.specs.Placed.{Viewed, replicas_of}
use Rattle.region_view.specs.Sizes.{Sizes}

-- the slot on the first of the nodes
with_shadow-first : (sizes : Sizes) (slot : ℕ) (nodes : List ℕ) → 0 < length nodes → place_at sizes (with_shadow slot nodes) 0 ≡ record { node = get_or nodes 0 0; at = slot }
with_shadow-first sizes slot [] some = absurd (omega arith)
with_shadow-first sizes slot (node ∷ []) some =
    let first : 0 + slot ≡ slot = omega arith in
    ap (λ (at : ℕ). record { node = node; at = at }) first
with_shadow-first sizes slot (node ∷ other ∷ nodes) some =
    let first : 0 + slot ≡ slot = omega arith in
    ap (λ (at : ℕ). record { node = node; at = at }) first

pub slot_primary-is : (view : Viewed) (slot : ℕ) → IsView view → slot_primary view slot ≡ record { node = get_or (replicas_of view 0) 0 0; at = slot }
slot_primary-is view slot is = with_shadow-first view.shape slot (replicas_of view 0) (replicas_of-some view 0 is (omega arith))
