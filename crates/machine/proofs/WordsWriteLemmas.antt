-- A writing of words stays one, and its verbs go to places of the pool.
use Rattle.std.proofs.Common.{◌≡◌, ℕ, ◌+◌, ◌<◌, Bool, true, false, List, length, refl, subst, arith}
use Rattle.std.specs.Prelude.{nat_lt, slice_index_or}
use Rattle.std.proofs.lemmas.Bool.Decides.{nat_tests}
use Rattle.machine.specs.EpochRead.{IsView}
use Rattle.machine.specs.ObjectNames.{IsObject}
use Rattle.machine.specs.Places.{IsInPool, object_word, replica_count}
use Rattle.machine.specs.WordsWrite.{IsWordsWrite, Piece, WordsWrite, next, present_piece, turn, words_write_of}
use Rattle.machine.proofs.ObjectNamesLemmas.{names_object-says, object_word-has}
use Rattle.machine.proofs.PlacesLemmas.{replica_count-same, replica_count-some, written_place-inside}
use Rattle.object_form.specs.Class.{room_of}
use Rattle.region_view.specs.Placed.{Viewed}
use Rattle.verb_words.specs.declared.verbs.Answer.{Answer}
use Rattle.verb_words.specs.declared.verbs.Answer.TheVariants.{Word, Done, Lost}
use Rattle.verb_words.specs.Verb.{place_of}

pub words_write_of-is : (view : Viewed) (pointer class : ℕ) (pieces : List Piece) → IsView view → IsObject view.shape (record { pointer = pointer; class = class }) → 0 < length pieces
    → ((i : ℕ) → i < length pieces → (slice_index_or pieces i (0, 0)).0 < room_of class) → IsWordsWrite view (words_write_of view pointer pieces)
words_write_of-is view pointer class pieces is named some room = record {
  held = refl;
  is_view = is;
  class = class;
  object = named;
  room = room;
  piece = some;
  replica = replica_count-some view (object_word pointer 0) is (names_object-says view.shape class pointer named.named).region.1;
}

-- a writing stays one, whatever is answered
pub turn-is : (view : Viewed) (write : WordsWrite) (answer : Answer) → IsWordsWrite view write → IsWordsWrite view (turn write answer).state
turn-is view write (Word found) is = is
turn-is view write Lost is = is
turn-is view write Done is =
    by (nat_lt (write.replica + 1) (replica_count write.view (object_word write.pointer 0))) refl (nat_lt (write.piece + 1) (length write.pieces)) refl
  where
    by : (t : Bool) → nat_lt (write.replica + 1) (replica_count write.view (object_word write.pointer 0)) ≡ t → (u : Bool) → nat_lt (write.piece + 1) (length write.pieces) ≡ u
        → IsWordsWrite view (turn write Done).state
    by true more u pieces = rw more (record {
      held = is.held;
      is_view = is.is_view;
      class = is.class;
      object = is.object;
      room = is.room;
      piece = is.piece;
      replica = grind (arith, nat_tests);
    })
    by false last true more = rw (last, more) (record {
      held = is.held;
      is_view = is.is_view;
      class = is.class;
      object = is.object;
      room = is.room;
      piece = grind (arith, nat_tests);
      replica = replica_count-some write.view (object_word write.pointer 0) is.is_view (names_object-says write.view.shape is.class write.pointer is.object.named).region.1;
    })
    by false last false done = rw (last, done) is

-- its verb goes to a place of the pool
pub next-inside : (view : Viewed) (write : WordsWrite) → IsWordsWrite view write → IsInPool view.shape (place_of (next write))
next-inside view write is =
    let P : Viewed → Type 0 = λ v. IsInPool v.shape (place_of (next write)) in
    let word = object_word write.pointer (present_piece write).0 in
    let same = replica_count-same write.view word (object_word write.pointer 0) refl in
    subst P is.held (written_place-inside write.view word write.replica is.is_view
    (object_word-has write.view.shape (record { pointer = write.pointer; class = is.class }) (present_piece write).0 is.object (is.room write.piece is.piece))
    (omega (arith, is.replica)))
