-- A reading of a value of the program as one of the machine, and what is true of it from its beginning on.
use Rattle.std.specs.Prelude.{◌≡◌, ℕ, ◌+◌, ◌*◌, ◌^◌, ◌<◌, ◌≤◌, List, length, Some}
use Rattle.machine.specs.ObjectNames.{Object, object_in}
use Rattle.machine.specs.Places.{object_word, primary_place}
use Rattle.machine.specs.ValueRead.{IsValueRead, ValueRead}
use Rattle.object_form.specs.Class.{room_of, words_for, words_of}
use Rattle.object_form.specs.Content.{bytes_of_words, padded_words}
use Rattle.region_view.specs.Placed.{Viewed}
use Rattle.region_view.specs.Sizes.{Sizes}
use Rattle.verb_words.specs.declared.verbs.Place.{Place}

-- the word names an object of the pool that has room for a key and a value of these lengths
pub record HasRoom (sizes : Sizes) (word key_len value_len : ℕ) : Type 0 where
  pub object : Object
  pub named : object_in sizes word ≡ Some object
  pub room : words_of key_len value_len ≤ room_of object.class

-- the words that were read are those of the bytes at hand
abbrev pub read_of : Viewed → ℕ → ℕ → ℕ → List ℕ → ValueRead
read_of view pointer key_len value_len bytes =
    record { view = view; pointer = pointer; key_len = key_len; value_len = value_len; words = padded_words bytes }

-- a reading, with the bytes of its words and the place of the value's first word at hand
pub record IsHeld (read : ValueRead) (bytes : List ℕ) (first : Place) : Type 0 where
  pub state : length read.words < words_for read.value_len → IsValueRead read.view read
  pub filled : bytes ≡ bytes_of_words read.words
  pub long : length bytes ≡ 8 * length read.words
  pub most : words_for read.value_len ≤ 252
  pub places : (i : ℕ) → primary_place read.view (object_word read.pointer (4 + words_for read.key_len + i)) ≡ record { node = first.node; at = first.at + i }
  pub below : first.at < 2 ^ 22
