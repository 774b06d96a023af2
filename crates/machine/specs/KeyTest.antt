-- A test of whether an object has a key: its meta word is read, and then its key, word by word.
use Rattle.std.specs.Prelude.{◌≡◌, ℕ, ◌+◌, ◌<◌, ◌≤◌, Bool, ◌&&◌, ◌==◌, nat_le, if◌then◌else◌, List, length, Option, Some, None}
use Rattle.std.specs.Option.{option_and_then, option_map_or}
use Rattle.machine.specs.declared.key_test.Tested.{Tested}
use Rattle.machine.specs.declared.key_test.Tested.TheVariants.{Going, Same, Other, Refused}
use Rattle.machine.specs.EpochRead.{IsView}
use Rattle.machine.specs.ObjectNames.{IsObject, Object}
use Rattle.machine.specs.Places.{object_word, primary_place}
use Rattle.machine.specs.Turn.{Turn}
use Rattle.object_form.specs.declared.metas.Kind.{Kind}
use Rattle.object_form.specs.declared.metas.Meta.{Meta}
use Rattle.object_form.specs.Class.{room_of, words_for, words_of}
use Rattle.object_form.specs.Content.{word_from}
use Rattle.object_form.specs.Meta.{meta_in}
use Rattle.region_view.specs.Placed.{Viewed}
use Rattle.verb_words.specs.declared.verbs.Answer.{Answer}
use Rattle.verb_words.specs.declared.verbs.Answer.TheVariants.{Word, Done, Lost}
use Rattle.verb_words.specs.declared.verbs.Verb.{Verb}
use Rattle.verb_words.specs.declared.verbs.Verb.TheVariants.{Read}
use Rattle.verb_words.specs.Verb.{place_of}

-- Length: reads the meta word. Part: reads a word of the key, of an object of this kind and with a value of this length
pub data Phase : Type 0 where
  Length : Phase
  Part : (word : ℕ) → (kind : Kind) → (value_len : ℕ) → Phase

pub record KeyTest : Type 0 where
  pub view : Viewed
  pub key : List ℕ
  pub object : Object
  pub phase : Phase

abbrev pub key_test_of : Viewed → List ℕ → Object → KeyTest
key_test_of view key object = record { view = view; key = key; object = object; phase = Length }

abbrev pub verb_at : Phase → KeyTest → Verb
verb_at Length test = Read (primary_place test.view (object_word test.object.pointer 1))
verb_at (Part word kind value_len) test = Read (primary_place test.view (object_word test.object.pointer (4 + word)))

abbrev pub next : KeyTest → Verb
next test = verb_at test.phase test

abbrev pub goes : KeyTest → Turn KeyTest Tested
goes test = record { state = test; told = Going }

abbrev pub tells : KeyTest → Tested → Turn KeyTest Tested
tells test told = record { state = test; told = told }

-- whether the meta is that of a key of this length in an object of this class
abbrev pub fits : ℕ → ℕ → Meta → Bool
fits key_len class meta = (meta.key_len == key_len) && nat_le (words_of meta.key_len meta.value_len) (room_of class)

abbrev pub fitting : ℕ → ℕ → Meta → Option Meta
fitting key_len class meta = if fits key_len class meta then Some meta else None

-- the meta that a word says, if the object may have the key
abbrev pub meta_for : KeyTest → ℕ → Option Meta
meta_for test found = option_and_then (fitting (length test.key) test.object.class) (meta_in found)

-- after a word of the key that is as it should be
abbrev pub matched : KeyTest → ℕ → Kind → ℕ → Turn KeyTest Tested
matched test word kind value_len =
    if word + 1 == words_for (length test.key)
    then tells test (Same kind value_len)
    else goes (record test { phase = Part (word + 1) kind value_len })

abbrev pub turn_at : Phase → KeyTest → ℕ → Turn KeyTest Tested
turn_at Length test found =
    option_map_or (λ meta. goes (record test { phase = Part 0 meta.kind meta.value_len })) (meta_for test found) (tells test Other)
turn_at (Part word kind value_len) test found =
    if found == word_from test.key word then matched test word kind value_len else tells test Other

abbrev pub turn : KeyTest → Answer → Turn KeyTest Tested
turn test (Word found) = turn_at test.phase test found
turn test Done = goes test
turn test Lost = tells test (Refused (place_of (next test)).node)

-- the word of the key is one of the key's words, and the object has room for the key and a value of the length
abbrev pub IsAt : Phase → ℕ → ℕ → Type 0
IsAt Length key_len class = Unit {0}
IsAt (Part word kind value_len) key_len class = (word < words_for key_len) × (words_of key_len value_len ≤ room_of class)

-- what holds of each test of a key under a view
pub record IsKeyTest (view : Viewed) (key : List ℕ) (test : KeyTest) : Type 0 where
  pub held : test.view ≡ view
  pub is_view : IsView test.view
  pub same : test.key ≡ key
  pub some : 1 ≤ length test.key
  pub object : IsObject test.view.shape test.object
  pub phase : IsAt test.phase (length test.key) test.object.class
