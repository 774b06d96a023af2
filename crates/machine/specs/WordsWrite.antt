-- The writing of some words of an object, each to every replica before the next: an object's content and its link, or
-- what it is logged to replace.
use Rattle.std.specs.Prelude.{◌≡◌, ℕ, ◌+◌, ◌<◌, ◌%◌, ◌^◌, nat_lt, if◌then◌else◌, List, [], ◌∷◌, ◌++◌, length, slice_index_or}
use Rattle.std.specs.List.{enumerate_from}
use Rattle.machine.specs.declared.object_write.Written.{Written}
use Rattle.machine.specs.declared.object_write.Written.TheVariants.{Going, Whole, Refused}
use Rattle.machine.specs.EpochRead.{IsView}
use Rattle.machine.specs.ObjectNames.{IsObject}
use Rattle.machine.specs.Places.{object_word, replica_count, written_place}
use Rattle.machine.specs.Turn.{Turn}
use Rattle.object_form.specs.declared.links.Link.{Link}
use Rattle.object_form.specs.declared.metas.Kind.{Kind}
use Rattle.object_form.specs.Class.{room_of}
use Rattle.object_form.specs.Content.{padded_words}
use Rattle.object_form.specs.Link.{word_of_link}
use Rattle.object_form.specs.Meta.{word_of_meta}
use Rattle.region_view.specs.Placed.{Viewed}
use Rattle.verb_words.specs.declared.verbs.Answer.{Answer}
use Rattle.verb_words.specs.declared.verbs.Answer.TheVariants.{Word, Done, Lost}
use Rattle.verb_words.specs.declared.verbs.Verb.{Verb}
use Rattle.verb_words.specs.declared.verbs.Verb.TheVariants.{Write}
use Rattle.verb_words.specs.Verb.{place_of}

-- a word of an object: its number there, and what is written
abbrev pub Piece : Type 0
Piece = ℕ × ℕ

-- the present piece goes to the present replica, counted with the backups in order and the primary last
pub record WordsWrite : Type 0 where
  pub view : Viewed
  pub pointer : ℕ
  pub pieces : List Piece
  pub piece : ℕ
  pub replica : ℕ

abbrev pub words_write_of : Viewed → ℕ → List Piece → WordsWrite
words_write_of view pointer pieces = record { view = view; pointer = pointer; pieces = pieces; piece = 0; replica = 0 }

-- the content of an object from word 1 on: the meta word, the version and the expected word, which are 0 yet, the key and
-- the value; and then its link
abbrev pub body_of : Kind → List ℕ → List ℕ → Link → List Piece
body_of kind key value link =
    enumerate_from 1 (word_of_meta (record { kind = kind; key_len = length key; value_len = length value })
    ∷ 0 ∷ 0 ∷ (padded_words key ++ padded_words value))
    ++ (0, word_of_link link % 2 ^ 64) ∷ []

-- what an object is logged to replace, and then its version
abbrev pub log_of : ℕ → ℕ → List Piece
log_of expect version = (3, expect) ∷ (2, version) ∷ []

abbrev pub present_piece : WordsWrite → Piece
present_piece write = slice_index_or write.pieces write.piece (0, 0)

abbrev pub next : WordsWrite → Verb
next write =
    Write (written_place write.view (object_word write.pointer (present_piece write).0) write.replica) (present_piece write).1

abbrev pub goes : WordsWrite → Turn WordsWrite Written
goes write = record { state = write; told = Going }

abbrev pub tells : WordsWrite → Written → Turn WordsWrite Written
tells write told = record { state = write; told = told }

abbrev pub turn : WordsWrite → Answer → Turn WordsWrite Written
turn write Done =
    if nat_lt (write.replica + 1) (replica_count write.view (object_word write.pointer 0))
    then goes (record write { replica = write.replica + 1 })
    else if nat_lt (write.piece + 1) (length write.pieces)
    then goes (record write { piece = write.piece + 1; replica = 0 })
    else tells write Whole
turn write (Word found) = goes write
turn write Lost = tells write (Refused (place_of (next write)).node)

-- what holds of each writing of words under a view: the pointer names an object that has all of these words
pub record IsWordsWrite (view : Viewed) (write : WordsWrite) : Type 0 where
  pub held : write.view ≡ view
  pub is_view : IsView write.view
  pub class : ℕ
  pub object : IsObject write.view.shape (record { pointer = write.pointer; class = class })
  pub room : (i : ℕ) → i < length write.pieces → (slice_index_or write.pieces i (0, 0)).0 < room_of class
  pub piece : write.piece < length write.pieces
  pub replica : write.replica < replica_count write.view (object_word write.pointer 0)
