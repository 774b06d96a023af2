-- The words that are read are there.
use Rattle.std.proofs.Common.{◌≡◌, ℕ, zero, suc, ◌+◌, ◌-◌, ◌*◌, ◌<◌, ◌≤◌, ◌==◌, false, inl, inr, List, [], length, map, get_or, refl, sym, ap, subst, ◌∙◌, arith}
use Rattle.std.proofs.lemmas.List.{get_or-map, get_or-replicate, length-map, length-replicate}
use Rattle.std.proofs.lemmas.Bool.Decides.{nat_tests}
use Rattle.std.proofs.lemmas.Nat.{rows}
use Rattle.machine.proofs.ObjectNamesLemmas.{IsNamed, names_object-says}
use Rattle.machine.proofs.PlacesLemmas.{control-inside}
use Rattle.machine.specs.ObjectNames.{IsObject, Object}
use Rattle.machine.specs.Places.{IsInPool, control}
use Rattle.machine_world.specs.Readings.{primary_of, word_in_force}
use Rattle.machine_world.specs.Standing.{node_sizes}
use Rattle.region_view.specs.Control.{ControlWord, HasControlWord}
use Rattle.region_view.specs.Layout.{NodeWord, offset_of, region_of_word}
use Rattle.region_view.specs.Placed.{region_start}
use Rattle.region_view.specs.Sizes.{Sizes, node_words, region_words}
use Rattle.world_ledger.specs.Seen.{IsUnit}
use Rattle.verb_words.specs.Words.{HasPlace, word_at, words_on}
use Rattle.verb_words.specs.declared.verbs.Place.{Place}

-- nodes with all of their words have each place of the pool
pub has_place : (sizes : Sizes) (nodes : List (List ℕ)) (place : Place) → map length nodes ≡ node_sizes sizes → IsInPool sizes place → HasPlace nodes place
has_place sizes nodes place whole inside = elim inside [
  | inl in_control ↦ record {
    node = omega (arith, count, in_control.0);
    at = let P : ℕ → Type 0 = λ n. place.at < length (words_on nodes n) in
        subst P (sym in_control.0) (omega (arith, at_control, in_control.1));
  }
  | inr in_memory ↦ record {
    node = omega (arith, count, in_memory.1);
    at = omega (arith, at place.node in_memory.0 in_memory.1, in_memory.2);
  }
]
  where
    count : length nodes ≡ 1 + sizes.nodes
    count = sym (length-map nodes length) ∙ ap length whole ∙ omega (arith, length-replicate {A = ℕ} sizes.nodes (node_words sizes))

    at_control : length (words_on nodes 0) ≡ 1040
    at_control = sym (get_or-map length nodes 0 [] 0 (omega (arith, count))) ∙ ap (λ lengths. get_or lengths 0 0) whole

    at : (node : ℕ) → 1 ≤ node → node ≤ sizes.nodes → length (words_on nodes node) ≡ node_words sizes
    at (suc node) least most =
        sym (get_or-map length nodes (suc node) [] 0 (omega (arith, count)))
        ∙ ap (λ lengths. get_or lengths (suc node) 0) whole
        ∙ get_or-replicate sizes.nodes node (node_words sizes) 0 (omega arith)
    at zero least most = absurd (omega arith)

-- and each word of the control node
pub has_control : (sizes : Sizes) (nodes : List (List ℕ)) (word : ControlWord) → map length nodes ≡ node_sizes sizes → HasControlWord word → HasPlace nodes (control word)
has_control sizes nodes word whole has = has_place sizes nodes (control word) whole (control-inside sizes word has)

-- and each word of a memory node
pub has_word : (sizes : Sizes) (nodes : List (List ℕ)) (node at : ℕ) → map length nodes ≡ node_sizes sizes → 1 ≤ node → node ≤ sizes.nodes → at < node_words sizes
    → HasPlace nodes (record { node = node; at = at })
has_word sizes nodes node at whole least most below = has_place sizes nodes _ whole (inr (least, most, below))

-- a word on the primary is the word in force
pub is_in_force : (sizes : Sizes) (nodes : List (List ℕ)) (word : NodeWord) (region offset node at : ℕ) → region_of_word word ≡ region → offset_of sizes word ≡ offset
    → node ≡ primary_of sizes nodes region → at ≡ region_start sizes region + offset → word_at nodes (record { node = node; at = at }) ≡ word_in_force sizes nodes word
unfolding word_in_force
is_in_force sizes nodes word region offset node at of_region at_offset primary position =
    let node_is : node ≡ primary_of sizes nodes (region_of_word word) = primary ∙ ap (primary_of sizes nodes) (sym of_region) in
    let at_is : at ≡ region_start sizes (region_of_word word) + offset_of sizes word = position ∙ (λ i. region_start sizes (sym of_region i) + sym at_offset i) in
    λ i. word_at nodes (record { node = node_is i; at = at_is i })

is_not_index : (region : ℕ) → (suc region == 0) ≡ false
is_not_index region = grind (arith, nat_tests)

region_start-data : (sizes : Sizes) (region : ℕ) → region_start sizes (suc region) ≡ 48 * sizes.groups + region * region_words sizes
region_start-data sizes region =
    let before : suc region - 1 ≡ region = omega arith in
    rw (is_not_index region, before) refl

next_row : (l h words : ℕ) → l < h → l * words + words ≤ h * words
next_row l h words below = grind (arith, rows)

-- a word of a data region lies on its nodes
pub region_inside : (sizes : Sizes) (region offset : ℕ) → 1 ≤ region → region ≤ sizes.regions → offset < 128 + 512 * sizes.blocks → region_start sizes region + offset < node_words sizes
region_inside sizes (suc region) offset least most below =
    let fits = next_row region sizes.regions (region_words sizes) (omega arith) in
    rw (region_start-data sizes region) (omega arith)
region_inside sizes zero offset least most below = absurd (omega arith)

-- what is known of an object's pointer
pub named_pointer : (sizes : Sizes) (given object : Object) → given ≡ object → IsObject sizes object → IsNamed sizes given.class given.pointer
named_pointer sizes given object same is = subst (λ (o : Object). IsNamed sizes o.class o.pointer) (sym same) (names_object-says sizes object.class object.pointer is.named)

-- a pointer to an object is one to a unit of a block
pub object_unit : (sizes : Sizes) (given object : Object) → given ≡ object → IsObject sizes object → IsUnit sizes given.pointer
object_unit sizes given object same is =
    let named = named_pointer sizes given object same is in
    record { below = named.below; region = named.region; first = named.first; last = named.last }
