-- The reading of a value, word by word.
use Rattle.std.specs.Prelude.{◌≡◌, ℕ, ◌+◌, ◌<◌, ◌≤◌, ◌==◌, if◌then◌else◌, List, [], ◌∷◌, ◌++◌, length, take}
use Rattle.machine.specs.declared.value_read.Fetched.{Fetched}
use Rattle.machine.specs.declared.value_read.Fetched.TheVariants.{Going, Whole, Refused}
use Rattle.machine.specs.EpochRead.{IsView}
use Rattle.machine.specs.ObjectNames.{IsObject}
use Rattle.machine.specs.Places.{object_word, primary_place}
use Rattle.machine.specs.Turn.{Turn}
use Rattle.object_form.specs.Class.{room_of, words_for, words_of}
use Rattle.object_form.specs.Content.{bytes_of_words}
use Rattle.region_view.specs.Placed.{Viewed}
use Rattle.verb_words.specs.declared.verbs.Answer.{Answer}
use Rattle.verb_words.specs.declared.verbs.Answer.TheVariants.{Word, Done, Lost}
use Rattle.verb_words.specs.declared.verbs.Verb.{Verb}
use Rattle.verb_words.specs.declared.verbs.Verb.TheVariants.{Read}
use Rattle.verb_words.specs.Verb.{place_of}

-- the words of the value that were read so far, of the object that a pointer names
pub record ValueRead : Type 0 where
  pub view : Viewed
  pub pointer : ℕ
  pub key_len : ℕ
  pub value_len : ℕ
  pub words : List ℕ

abbrev pub value_read_of : Viewed → ℕ → ℕ → ℕ → ValueRead
value_read_of view pointer key_len value_len =
    record { view = view; pointer = pointer; key_len = key_len; value_len = value_len; words = [] }

-- the value's words stand behind the four of the object's own and those of its key
abbrev pub next : ValueRead → Verb
next read = Read (primary_place read.view (object_word read.pointer (4 + words_for read.key_len + length read.words)))

-- the bytes of the value, once all of its words were read
abbrev pub bytes_of : ValueRead → List ℕ
bytes_of read = take read.value_len (bytes_of_words read.words)

abbrev pub with_next : ValueRead → ℕ → ValueRead
with_next read found = record read { words = read.words ++ found ∷ [] }

abbrev pub turn : ValueRead → Answer → Turn ValueRead Fetched
turn read (Word found) =
    if length read.words + 1 == words_for read.value_len
    then record { state = with_next read found; told = Whole }
    else record { state = with_next read found; told = Going }
turn read Done = record { state = read; told = Going }
turn read Lost = record { state = read; told = Refused (place_of (next read)).node }

-- what holds of each reading of a value under a view: the pointer names an object with room for the key and the value, of
-- which a word is still to be read
pub record IsValueRead (view : Viewed) (read : ValueRead) : Type 0 where
  pub held : read.view ≡ view
  pub is_view : IsView read.view
  pub class : ℕ
  pub object : IsObject read.view.shape (record { pointer = read.pointer; class = class })
  pub room : words_of read.key_len read.value_len ≤ room_of class
  pub words : length read.words < words_for read.value_len
