-- Whether an object is in stock is told by the epoch word and by the word of its bit.
use Rattle.std.proofs.Common.{◌≡◌, ◌≢◌, ℕ, ◌%◌, ◌^◌, Bool, false, List, inr, ap, ◌∙◌, arith}
use Rattle.std.specs.Prelude.{slice_index_or}
use Rattle.std.proofs.lemmas.Bool.Decides.{nat_tests}
use Rattle.machine.specs.BitChange.{has_bit}
use Rattle.machine.specs.ObjectNames.{Object, bitmap_of, number_of}
use Rattle.machine.specs.Places.{control, place_of_home}
use Rattle.machine_world.specs.Readings.{epoch_in_force, is_in_stock, mask_in_force, word_in_force}
use Rattle.region_view.specs.Control.{EpochWord}
use Rattle.region_view.specs.Layout.{NodeWord, position_of, region_of_word}
use Rattle.region_view.specs.Placed.{placed_node, replicas_of}
use Rattle.region_view.specs.Sizes.{Sizes}
use Rattle.verb_words.proofs.AppliedLemmas.{word_at-words_after-other}
use Rattle.verb_words.proofs.PlaceLemmas.{places_differ}
use Rattle.verb_words.specs.Applied.{words_after}
use Rattle.verb_words.specs.Verb.{place_of}
use Rattle.verb_words.specs.Words.{word_at}
use Rattle.verb_words.specs.declared.verbs.Verb.{Verb}
use Rattle.world_ledger.specs.Seen.{may_bear_on_stock}

-- the epoch word stays where the verb goes to no first word of a node
epoch-other : (nodes : List (List ℕ)) (verb : Verb) (refuse : Bool) → 0 ≢ (place_of verb).at → epoch_in_force (words_after nodes verb refuse) ≡ epoch_in_force nodes
epoch-other nodes verb refuse differs =
    word_at-words_after-other nodes verb refuse (control EpochWord) (places_differ (control EpochWord) (place_of verb) (inr differs))

-- and the word in force where it goes to no word of that position either
in_force-other : (sizes : Sizes) (nodes : List (List ℕ)) (verb : Verb) (refuse : Bool) (word : NodeWord) → 0 ≢ (place_of verb).at → position_of sizes word ≢ (place_of verb).at
    → word_in_force sizes (words_after nodes verb refuse) word ≡ word_in_force sizes nodes word
unfolding word_in_force
in_force-other sizes nodes verb refuse word no_epoch differs =
    let region = region_of_word word in
    let node_for : ℕ → ℕ = λ mask. slice_index_or (replicas_of (record { shape = sizes; mask = mask }) region) 0 (placed_node sizes region 0) in
    let place = place_of_home sizes (node_for (mask_in_force (words_after nodes verb refuse)), word) in
    word_at-words_after-other nodes verb refuse place (places_differ place (place_of verb) (inr differs))
    ∙ ap (λ epoch. word_at nodes (place_of_home sizes (node_for (epoch % 2 ^ 8), word))) (epoch-other nodes verb refuse no_epoch)

pub in_stock-other : (sizes : Sizes) (nodes : List (List ℕ)) (verb : Verb) (refuse : Bool) (object : Object) → may_bear_on_stock sizes object.pointer (place_of verb) ≡ false
    → is_in_stock sizes (words_after nodes verb refuse) object ≡ is_in_stock sizes nodes object
in_stock-other sizes nodes verb refuse object bears_not =
    ap (λ bits. has_bit bits (number_of object.pointer object.class))
    (in_force-other sizes nodes verb refuse (bitmap_of object.pointer)
    (grind (arith, nat_tests))
    (λ same. by same))
  where
    by : position_of sizes (bitmap_of object.pointer) ≡ (place_of verb).at → ⊥
    by same = grind (arith, nat_tests)
