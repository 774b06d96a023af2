-- What is true of a test of a key from its beginning on.
use Rattle.std.specs.Prelude.{◌≡◌, ℕ, ◌+◌, ◌^◌, ◌<◌, ◌≤◌, length}
use Rattle.machine.specs.KeyTest.{IsKeyTest, KeyTest}
use Rattle.machine.specs.Places.{object_word, primary_place}
use Rattle.object_form.specs.Content.{word_from}
use Rattle.object_form.specs.declared.classes.TheConstants.{CLASSES}
use Rattle.verb_words.specs.declared.verbs.Place.{Place}

-- a test of a key, with the place of the object's first word and the key's first word at hand
pub record IsHeld (test : KeyTest) (first : Place) (first_word : ℕ) : Type 0 where
  pub state : IsKeyTest test.view test.key test
  pub places : (i : ℕ) → primary_place test.view (object_word test.object.pointer i) ≡ record { node = first.node; at = first.at + i }
  pub below : first.at < 2 ^ 21
  pub key : length test.key ≤ 64
  pub word : first_word ≡ word_from test.key 0
  pub class : test.object.class < CLASSES
