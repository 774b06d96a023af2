-- The homes of words and slots as the pairs of node and position that the layout of the nodes has for them.
use Rattle.std.proofs.Common.{◌≡◌, ◌≢◌, ℕ, ◌+◌, ◌*◌, ◌<◌, ◌≤◌, List, [], ◌∷◌, length, map, get_or, refl, sym, ap, ◌∙◌, arith}
use Rattle.std.specs.Prelude.{AllPairs}
use Rattle.std.proofs.lemmas.List.{get_or-map, length-map}
use Rattle.std.proofs.lemmas.List.FromFn.{length-map-range_with_len}
use Rattle.std.proofs.lemmas.List.Sums.{count_by-le-length, length-filter}
use Rattle.machine.specs.Places.{Home, backup_count, homes_of, pair_of, place_at, slot_backup, slot_homes_of, slot_primary, with_shadow}
use Rattle.region_view.proofs.PlacedLemmas.{replicas_of-different}
use Rattle.region_view.specs.Layout.{NodeWord, Slot, Shadow, offset_of, region_of_word}
use Rattle.region_view.specs.Placed.{Viewed, in_mask, placed_node, placed_nodes, region_start, replicas_of}
use Rattle.region_view.specs.Places as region
use Rattle.region_view.specs.Sizes.{IsWithinLimits, Sizes}
use Rattle.verb_words.specs.declared.verbs.Place.{Place}

-- the slot on a node
abbrev home_on : ℕ → ℕ → Home
home_on slot node = (node, Slot slot)

words-pairs : (sizes : Sizes) (word : NodeWord) (nodes : List ℕ)
    → map (pair_of sizes) (map (λ node. (node, word)) nodes) ≡ map (λ node. (node, region_start sizes (region_of_word word) + offset_of sizes word)) nodes
words-pairs sizes word [] = refl
words-pairs sizes word (node ∷ nodes) = rw (words-pairs sizes word nodes) refl

-- the places of a word on its replicas are the word's places
pub homes_of-places : (view : Viewed) (word : NodeWord)
    → map (pair_of view.shape) (homes_of view word) ≡ region.word_places_of view (region_of_word word) (offset_of view.shape word)
homes_of-places view word = words-pairs view.shape word (replicas_of view (region_of_word word))

slots-pairs : (sizes : Sizes) (slot : ℕ) (nodes : List ℕ) → map (pair_of sizes) (map (home_on slot) nodes) ≡ map (λ n. (n, slot)) nodes
slots-pairs sizes slot [] = refl
slots-pairs sizes slot (node ∷ nodes) =
    let first : 0 + slot ≡ slot = omega arith in
    rw (first, slots-pairs sizes slot nodes) refl

with_shadow-pairs : (sizes : Sizes) (slot : ℕ) (nodes : List ℕ) → map (pair_of sizes) (with_shadow slot nodes) ≡ region.with_shadow (24 * sizes.groups) slot nodes
with_shadow-pairs sizes slot [] = refl
with_shadow-pairs sizes slot (node ∷ []) =
    let first : 0 + slot ≡ slot = omega arith in
    let second : 0 + (24 * sizes.groups + slot) ≡ 24 * sizes.groups + slot = omega arith in
    rw (first, second) refl
with_shadow-pairs sizes slot (node ∷ other ∷ nodes) = slots-pairs sizes slot (node ∷ other ∷ nodes)

-- the places of a slot's homes are the slot's places
pub slot_homes_of-places : (view : Viewed) (slot : ℕ) → map (pair_of view.shape) (slot_homes_of view slot) ≡ region.slot_places_of view slot
slot_homes_of-places view slot = with_shadow-pairs view.shape slot (replicas_of view 0)

-- a region has at most five replicas
pub replicas_of-few : (view : Viewed) (region : ℕ) → IsWithinLimits view.shape → length (replicas_of view region) ≤ 5
replicas_of-few view region limits =
    let f : ℕ → ℕ = placed_node view.shape region in
    let few = limits.replicas in
    omega (arith, length-map-range_with_len f 0 view.shape.replicas, length-filter (in_mask view.mask) (placed_nodes view.shape region), count_by-le-length (in_mask view.mask) (placed_nodes view.shape region))

with_shadow-few : (slot : ℕ) (nodes : List ℕ) → length nodes ≤ 5 → length (with_shadow slot nodes) ≤ 5
with_shadow-few slot [] few = omega arith
with_shadow-few slot (node ∷ []) few = omega arith
with_shadow-few slot (node ∷ other ∷ nodes) few = rw (length-map nodes (home_on slot)) few

pub slot_homes_of-few : (view : Viewed) (slot : ℕ) → IsWithinLimits view.shape → length (slot_homes_of view slot) ≤ 5
slot_homes_of-few view slot limits = with_shadow-few slot (replicas_of view 0) (replicas_of-few view 0 limits)

with_shadow-apart : (sizes : Sizes) (slot i : ℕ) (nodes : List ℕ) → IsWithinLimits sizes → AllPairs (λ one other. one ≢ other) nodes → i + 1 < length (with_shadow slot nodes)
    → place_at sizes (with_shadow slot nodes) (i + 1) ≢ place_at sizes (with_shadow slot nodes) 0
with_shadow-apart sizes slot i [] limits apart within same = omega arith
with_shadow-apart sizes slot i (node ∷ []) limits apart within same =
    let first : i ≡ 0 = omega arith in
    let groups = limits.groups in
    let at = ap (λ (place : Place). place.at) same in
    let shadow : 0 + (24 * sizes.groups + slot) ≡ 0 + slot = ap (λ (k : ℕ). (place_at sizes ((node, Slot slot) ∷ (node, Shadow slot) ∷ []) (k + 1)).at) (sym first) ∙ at in
    omega arith
with_shadow-apart sizes slot i (node ∷ other ∷ nodes) limits apart within same =
    let long = length-map nodes (home_on slot) in
    let here = get_or-map (home_on slot) (node ∷ other ∷ nodes) (i + 1) 0 (0, Slot 0) (omega arith) in
    let is : get_or (node ∷ other ∷ nodes) (i + 1) 0 ≡ node = sym (ap (λ (home : Home). home.0) here) ∙ ap (λ (place : Place). place.node) same in
    apart 0 (i + 1) 0 (omega arith) (omega arith) (sym is)

-- the primary of a slot is none of its backups
pub primary_is_no_backup : (view : Viewed) (slot backup : ℕ) → IsWithinLimits view.shape → backup < backup_count view slot → slot_backup view slot backup ≢ slot_primary view slot
primary_is_no_backup view slot backup limits within =
    with_shadow-apart view.shape slot backup (replicas_of view 0) limits (replicas_of-different view 0 limits) (omega arith)
