-- Where the words that the actors work on stand: on the control node, or on the replicas of their region.
use Rattle.std.specs.Prelude.{◌≡◌, ℕ, ◌+◌, ◌-◌, ◌/◌, ◌%◌, ◌<◌, ◌≤◌, ◌⊎◌, List, [], ◌∷◌, ◌++◌, length, map, slice_index_or}
use Rattle.verb_words.specs.declared.verbs.Place.{Place}
use Rattle.verb_words.specs.declared.verbs.Verb.{Verb}
use Rattle.verb_words.specs.declared.verbs.Verb.TheVariants.{Add, Read, Swap, Write}
use Rattle.pointer_fields.specs.Pointer.{region_of, unit_of}
use Rattle.region_view.specs.Control.{ControlWord, control_position}
use Rattle.region_view.specs.Layout.{NodeWord, Slot, Shadow, UnitWord, position_of, region_of_word}
use Rattle.region_view.specs.Placed.{Viewed, replicas_of}
use Rattle.region_view.specs.Sizes.{Sizes, node_words}

-- a word on one of its nodes
abbrev pub Home : Type 0
Home = ℕ × NodeWord

abbrev pub control : ControlWord → Place
control word = record { node = 0; at = control_position word }

abbrev pub place_of_home : Sizes → Home → Place
place_of_home sizes home = record { node = home.0; at = position_of sizes home.1 }

-- node and position of a home
abbrev pub pair_of : Sizes → Home → ℕ × ℕ
pair_of sizes home = (home.0, position_of sizes home.1)

-- the word on each replica of its region, the primary first
abbrev pub homes_of : Viewed → NodeWord → List Home
homes_of view word = map (λ node. (node, word)) (replicas_of view (region_of_word word))

-- a slot on each replica of the index; where one replica alone is left, the slot's shadow on it is the one backup
abbrev pub with_shadow : ℕ → List ℕ → List Home
with_shadow slot [] = []
with_shadow slot (node ∷ []) = (node, Slot slot) ∷ (node, Shadow slot) ∷ []
with_shadow slot (node ∷ other ∷ nodes) = map (λ n. (n, Slot slot)) (node ∷ other ∷ nodes)

-- the primary's place of a slot, and then those of its backups
abbrev pub slot_homes_of : Viewed → ℕ → List Home
slot_homes_of view slot = with_shadow slot (replicas_of view 0)

abbrev pub place_at : Sizes → List Home → ℕ → Place
place_at sizes homes i = place_of_home sizes (slice_index_or homes i (0, Slot 0))

-- the word on the primary
abbrev pub primary_place : Viewed → NodeWord → Place
primary_place view word = place_at view.shape (homes_of view word) 0

-- the backups in order, and the primary last
abbrev pub primary_last : List Home → List Home
primary_last [] = []
primary_last (primary ∷ backups) = backups ++ primary ∷ []

-- the i-th place at which a word is written that goes to each replica
abbrev pub written_place : Viewed → NodeWord → ℕ → Place
written_place view word i = place_at view.shape (primary_last (homes_of view word)) i

abbrev pub replica_count : Viewed → NodeWord → ℕ
replica_count view word = length (homes_of view word)

abbrev pub slot_primary : Viewed → ℕ → Place
slot_primary view slot = place_at view.shape (slot_homes_of view slot) 0

abbrev pub slot_backup : Viewed → ℕ → ℕ → Place
slot_backup view slot backup = place_at view.shape (slot_homes_of view slot) (backup + 1)

abbrev pub backup_count : Viewed → ℕ → ℕ
backup_count view slot = length (slot_homes_of view slot) - 1

-- word i of the object that a pointer names
abbrev pub object_word : ℕ → ℕ → NodeWord
object_word pointer i = UnitWord (region_of pointer) (unit_of pointer + i / 8) (i % 8)

-- a place of the pool: on the control node, or on one of the memory nodes
abbrev pub IsInPool : Sizes → Place → Type 0
IsInPool sizes place =
    ((place.node ≡ 0) × (place.at < 1040))
    ⊎ ((1 ≤ place.node) × (place.node ≤ sizes.nodes) × (place.at < node_words sizes))

-- outside the words of the control node that the master alone writes: the epoch word and the status words
abbrev pub IsSpared : Place → Type 0
IsSpared place = (1 ≤ place.node) ⊎ (16 ≤ place.at)

-- a verb that leaves the words of the master as they are
abbrev pub SparesMaster : Verb → Type 0
SparesMaster (Read place) = Unit {0}
SparesMaster (Write place word) = IsSpared place
SparesMaster (Swap place expect fresh) = IsSpared place
SparesMaster (Add place more) = IsSpared place
