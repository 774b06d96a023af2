-- The places of a word on the replicas of its region.
use Rattle.std.specs.Prelude.{ℕ, ◌+◌, ◌*◌, List, [], ◌∷◌, map}
use Rattle.region_view.specs.Placed.{Viewed, region_start, replicas_of}

-- node and position of a word on each replica, the primary's first
abbrev pub word_places_of : Viewed → ℕ → ℕ → List (ℕ × ℕ)
word_places_of view region offset = map (λ node. (node, region_start view.shape region + offset)) (replicas_of view region)

-- where one replica alone is left, the slot's shadow on that node is the one backup
abbrev pub with_shadow : ℕ → ℕ → List ℕ → List (ℕ × ℕ)
with_shadow slots slot [] = []
with_shadow slots slot (node ∷ []) = (node, slot) ∷ (node, slots + slot) ∷ []
with_shadow slots slot (node ∷ other ∷ nodes) = map (λ n. (n, slot)) (node ∷ other ∷ nodes)

-- a slot's place on the primary, and then its places on the backups
abbrev pub slot_places_of : Viewed → ℕ → List (ℕ × ℕ)
slot_places_of view slot = with_shadow (24 * view.shape.groups) slot (replicas_of view 0)
