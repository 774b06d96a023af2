-- A test of a key with its places at hand.
use Rattle.std.proofs.Common.{◌≡◌, ℕ, ◌+◌, ◌^◌, ◌<◌, List, length, refl, subst, arith}
use Rattle.machine.specs.EpochRead.{IsView}
use Rattle.machine.specs.KeyTest.{KeyTest, key_test_of}
use Rattle.machine.specs.ObjectNames.{IsObject, Object}
use Rattle.machine.specs.Places.{IsInPool, object_word, primary_place}
use Rattle.machine.proofs.KeyTestLemmas.{key_test_of-is, object_place-inside, room_of-eight}
use Rattle.machine.proofs.ObjectNamesLemmas.{names_object-if, object_word-has}
use Rattle.object_form.specs.Class.{IsKeyLength, room_of}
use Rattle.object_form.specs.Content.{word_from}
use Rattle.region_view.specs.Layout.{HasWord}
use Rattle.region_view.specs.Sizes.{IsWithinLimits, Sizes}
use Rattle.region_view.specs.Placed.{Viewed}
use Rattle.verb_words.specs.declared.verbs.Place.{Place}
use Rattle.key_test.specs.States.{IsHeld}

-- an object has a first word
pub first_word-has : (sizes : Sizes) (object : Object) → IsObject sizes object → HasWord sizes (object_word object.pointer 0)
first_word-has sizes object is = object_word-has sizes object 0 is (omega (arith, room_of-eight object.class is.class))

-- a test at its beginning
pub begun-held : (view : Viewed) (key : List ℕ) (object : Object) (first : Place) (word : ℕ) → IsView view → IsKeyLength (length key) → IsObject view.shape object
    → ((i : ℕ) → primary_place view (object_word object.pointer i) ≡ record { node = first.node; at = first.at + i }) → first.at < 2 ^ 21 → word ≡ word_from key 0
    → IsHeld (key_test_of view key object) first word
begun-held view key object first word is len named places below reads =
    record { state = key_test_of-is view key object is len.0 named; places = places; below = below; key = len.1; word = reads; class = named.class }

-- the place of a word of the object is in the pool
pub held_place-inside : (test now : KeyTest) (first : Place) (word i : ℕ) → IsHeld test first word → test ≡ now → i < room_of now.object.class
    → IsInPool now.view.shape (record { node = first.node; at = first.at + i })
held_place-inside test now first word i held is below =
    let P : KeyTest → Type 0 = λ t. i < room_of t.object.class → IsInPool t.view.shape (record { node = first.node; at = first.at + i }) in
    let inside : P test = λ under. subst (IsInPool test.view.shape) (held.places i) (object_place-inside test.view test.object i held.state.is_view held.state.object under) in
    subst P is inside below

-- every pool has a first object
pub first_object : (sizes : Sizes) → IsWithinLimits sizes → IsObject sizes (record { pointer = 0x100010; class = 0 })
first_object sizes limits = record {
  class = omega arith;
  named = names_object-if sizes 0 0x100010 (record { below = omega arith; region = (omega arith, limits.regions.0); first = omega arith; last = omega (arith, limits.blocks.0); whole = refl });
}
