-- Writings of an object's words, with what is at hand of them.
use Rattle.std.specs.Prelude.{◌≡◌, ℕ, ◌+◌, ◌≤◌, List, [], ◌∷◌, ◌++◌, length}
use Rattle.std.specs.List.{enumerate_from}
use Rattle.machine.specs.WordsWrite.{IsWordsWrite, Piece, WordsWrite}
use Rattle.kv_write.specs.Courses.{Course, write_on}
use Rattle.machine.specs.ObjectNames.{IsObject}
use Rattle.machine.specs.Places.{object_word, replica_count}
use Rattle.object_form.specs.declared.classes.TheConstants.{OBJECT_WORDS}
use Rattle.object_form.specs.declared.metas.Kind.{Kind}
use Rattle.object_form.specs.Content.{padded_words}
use Rattle.object_form.specs.Meta.{word_of_meta}
use Rattle.region_view.specs.Sizes.{Sizes}

-- the words of an object from word 1 on
abbrev pub content_of : Kind → List ℕ → List ℕ → List ℕ
content_of kind key value =
    word_of_meta (record { kind = kind; key_len = length key; value_len = length value })
    ∷ 0 ∷ 0 ∷ (padded_words key ++ padded_words value)

-- an object's words from word 1 on, and then its link
abbrev pub pieces_of : List ℕ → ℕ → List Piece
pieces_of content link = enumerate_from 1 content ++ (0, link) ∷ []

abbrev pub object_write_of : Course → List ℕ → ℕ → WordsWrite
object_write_of course content link = write_on course (pieces_of content link)

-- a writing of an object with these words from word 1 on
pub record IsObjectWrite (write : WordsWrite) (content : List ℕ) : Type 0 where
  pub state : IsWordsWrite write.view write
  pub long : length write.pieces ≡ length content + 1
  pub few : length content + 1 ≤ OBJECT_WORDS

-- a pointer names an object of the pool
abbrev pub IsObjectPointer : Sizes → ℕ → Type 0
IsObjectPointer sizes pointer = (class : ℕ) × IsObject sizes (record { pointer = pointer; class = class })

-- the word that is due is the last of all, on the last replica
abbrev pub IsLast : WordsWrite → Type 0
IsLast write = (write.piece + 1 ≡ length write.pieces) × (write.replica + 1 ≡ replica_count write.view (object_word write.pointer 0))
