-- The places at which a word of the pool is written: different words, and different replicas, have different places.
use Rattle.std.proofs.Common.{◌≡◌, ◌≢◌, ℕ, suc, ◌-◌, ◌<◌, List, [], ◌∷◌, ◌++◌, length, map, get_or, refl, sym, ◌∙◌, ap, subst, arith, inl, inr, length-append}
use Rattle.std.specs.Prelude.{AllPairs}
use Rattle.std.proofs.lemmas.Bool.{cases_lt}
use Rattle.std.proofs.lemmas.List.{get_or-map, get_or_append_left, get_or_push, map-append}
use Rattle.machine.proofs.PlacesLemmas.{IsNode, homes_of-are, length-primary_last, primary_last-are, replica_count-is}
use Rattle.machine.specs.Places.{Home, control, homes_of, place_at, place_of_home, primary_last, primary_place, replica_count, written_place}
use Rattle.region_view.proofs.LayoutLemmas.{position_of-apart}
use Rattle.region_view.proofs.PlacedLemmas.{replicas_of-different}
use Rattle.region_view.specs.Control.{ControlWord}
use Rattle.region_view.specs.Layout.{HasWord, NodeWord, Slot, position_of, region_of_word}
use Rattle.region_view.specs.Placed.{Viewed, replicas_of}
use Rattle.region_view.specs.Sizes.{IsWithinLimits}
use Rattle.verb_words.specs.declared.verbs.Place.{Place}

-- the nodes in the order in which they are written
abbrev rotated : List ℕ → List ℕ
rotated [] = []
rotated (node ∷ nodes) = nodes ++ node ∷ []

length-rotated : (nodes : List ℕ) → length (rotated nodes) ≡ length nodes
length-rotated [] = refl
length-rotated (node ∷ nodes) = omega (arith, length-append nodes (node ∷ []))

primary_last-map : (word : NodeWord) (nodes : List ℕ)
    → primary_last (map (λ node. (node, word)) nodes) ≡ map (λ node. (node, word)) (rotated nodes)
primary_last-map word [] = refl
primary_last-map word (node ∷ nodes) = sym (map-append (λ n. (n, word)) nodes (node ∷ []))

-- nodes that differ still do in that order
rotated-apart : (nodes : List ℕ) → AllPairs (λ one other. one ≢ other) nodes → AllPairs (λ one other. one ≢ other) (rotated nodes)
rotated-apart [] apart = apart
rotated-apart (node ∷ nodes) apart = λ i j d before within.
    elim (cases_lt j (length nodes)) [
      | inl inside ↦ λ same.
          apart (suc i) (suc j) d (omega arith) (omega arith)
          (sym (get_or_append_left nodes (node ∷ []) d i (omega arith))
          ∙ (same ∙ get_or_append_left nodes (node ∷ []) d j inside))
      | inr past ↦ λ same.
          let last : length nodes ≡ j = omega (arith, length-append nodes (node ∷ [])) in
          apart 0 (suc i) d (omega arith) (omega arith)
          (sym (get_or_push nodes node d j last)
          ∙ (sym same ∙ get_or_append_left nodes (node ∷ []) d i (omega arith)))
    ]

pub written_node : Viewed → NodeWord → ℕ → ℕ
written_node view word i = get_or (rotated (replicas_of view (region_of_word word))) i 0

pub written_place-is : (view : Viewed) (word : NodeWord) (i : ℕ) → i < replica_count view word
    → written_place view word i ≡ record { node = written_node view word i; at = position_of view.shape word }
unfolding written_node
written_place-is view word i within =
    let nodes = replicas_of view (region_of_word word) in
    let home : Home = (0, Slot 0) in
    ap (λ (homes : List Home). place_of_home view.shape (get_or homes i home)) (primary_last-map word nodes)
    ∙ ap (λ (one : Home). place_of_home view.shape one)
    (get_or-map (λ node. (node, word)) (rotated nodes) i 0 home
    (omega (arith, length-rotated nodes, replica_count-is view word, within)))

written_node-apart : (view : Viewed) (word : NodeWord) (i j : ℕ) → IsWithinLimits view.shape → i < replica_count view word
    → j < replica_count view word → written_node view word i ≡ written_node view word j → i ≡ j
unfolding written_node
written_node-apart view word i j limits within within' same =
    let nodes = replicas_of view (region_of_word word) in
    let apart = rotated-apart nodes (replicas_of-different view (region_of_word word) limits) in
    let long = length-rotated nodes in
    let count = replica_count-is view word in
    elim (cases_lt i j) [
      | inl less ↦ absurd (apart i j 0 less (omega arith) same)
      | inr more ↦
          elim (cases_lt j i) [
            | inl less ↦ absurd (apart j i 0 less (omega arith) (sym same))
            | inr not_less ↦ omega arith
          ]
    ]

-- one place is that of one word, on one replica
pub written_place-apart : (view : Viewed) (one other : NodeWord) (i j : ℕ) → IsWithinLimits view.shape → HasWord view.shape one
    → HasWord view.shape other → i < replica_count view one → j < replica_count view other
    → written_place view one i ≡ written_place view other j → (one ≡ other) × (i ≡ j)
written_place-apart view one other i j limits has has' within within' same =
    let places = sym (written_place-is view one i within) ∙ (same ∙ written_place-is view other j within') in
    let words : one ≡ other = position_of-apart view.shape one other limits has has' (ap (λ (place : Place). place.at) places) in
    let nodes : written_node view one i ≡ written_node view other j = ap (λ (place : Place). place.node) places in (
      words,
      written_node-apart view one i j limits within
          (subst (λ w. j < replica_count view w) (sym words) within')
          (subst (λ w. written_node view one i ≡ written_node view w j) (sym words) nodes),
    )

-- it is on a memory node
pub written_place-node : (view : Viewed) (word : NodeWord) (i : ℕ) → IsWithinLimits view.shape → HasWord view.shape word
    → i < replica_count view word → IsNode view.shape (written_place view word i).node
written_place-node view word i limits has within =
    let homes = homes_of view word in
    let home =
    (primary_last-are view.shape homes (homes_of-are view word limits has)) i (0, Slot 0)
    (omega (arith, length-primary_last homes)) in
    home.node

-- no word of a memory node is one of the control node
pub control-apart : (view : Viewed) (word : NodeWord) (i : ℕ) (of_control : ControlWord) → IsWithinLimits view.shape
    → HasWord view.shape word → i < replica_count view word → written_place view word i ≢ control of_control
control-apart view word i of_control limits has within same =
    omega (arith, (written_place-node view word i limits has within).least, ap (λ (place : Place). place.node) same)

-- the primary's place is the last
pub primary_place-last : (view : Viewed) (word : NodeWord) → primary_place view word ≡ written_place view word (replica_count view word - 1)
primary_place-last view word = last (homes_of view word)
  where
    last : (homes : List Home) → place_at view.shape homes 0 ≡ place_at view.shape (primary_last homes) (length homes - 1)
    last [] = refl
    last (home ∷ homes) =
        let place : Home = (0, Slot 0) in
        let at : length homes ≡ length (home ∷ homes) - 1 = omega arith in
        ap (λ (one : Home). place_of_home view.shape one) (sym (get_or_push homes home place (length (home ∷ homes) - 1) at))
