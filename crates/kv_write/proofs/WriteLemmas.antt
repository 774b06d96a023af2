-- The words that are written, and that a writing stays one.
use Rattle.std.proofs.Common.{◌≡◌, ℕ, zero, suc, ◌+◌, ◌^◌, ◌<◌, ◌≤◌, ◌⊎◌, inl, inr, true, List, [], ◌∷◌, ◌++◌, length, get_or, sym, ap, subst, ◌∙◌, arith, length-append}
use Rattle.std.specs.Prelude.{slice_index_or}
use Rattle.std.specs.List.{enumerate_from}
use Rattle.std.proofs.Math.ListN.{get_or-append}
use Rattle.std.proofs.Math.Seq.{get_or-append_seam}
use Rattle.std.proofs.lemmas.Bool.{cases_lt}
use Rattle.std.proofs.lemmas.List.FromFn.{get_or-enumerate_from, length-enumerate_from, length-map-range_with_len}
use Rattle.kv_write.specs.Courses.{course_of}
use Rattle.kv_write.specs.Writes.{IsObjectWrite, content_of, object_write_of, pieces_of}
use Rattle.machine.specs.EpochRead.{IsView}
use Rattle.machine.specs.ObjectNames.{IsObject, names_object}
use Rattle.machine.specs.Places.{object_word}
use Rattle.machine.specs.WordsWrite.{IsWordsWrite, Piece, WordsWrite, present_piece}
use Rattle.machine.proofs.ClientLemmas.{class_in-is}
use Rattle.machine.proofs.KeyTestLemmas.{room_of-eight}
use Rattle.machine.proofs.ObjectNamesLemmas.{names_object-says, object_word-has}
use Rattle.machine.proofs.WordsWriteLemmas.{words_write_of-is}
use Rattle.object_form.proofs.ClassLemmas.{words_of-bounds}
use Rattle.object_form.specs.Class.{IsKeyLength, class_in, room_of, words_for, words_of}
use Rattle.object_form.specs.Content.{padded_words, word_from}
use Rattle.object_form.specs.declared.classes.TheConstants.{CLASSES, LONGEST, OBJECT_WORDS}
use Rattle.object_form.specs.declared.metas.Kind.{Kind}
use Rattle.region_view.specs.Layout.{HasWord}
use Rattle.region_view.specs.Placed.{Viewed}
use Rattle.region_view.specs.Sizes.{Sizes}

-- ---- the words of an object, by their numbers

length-pieces_of : (content : List ℕ) (link : ℕ) → length (pieces_of content link) ≡ length content + 1
length-pieces_of content link = omega (arith, length-append (enumerate_from 1 content) ((0, link) ∷ []), length-enumerate_from 1 content)

pub pieces_of-content : (content : List ℕ) (link i : ℕ) → i < length content → slice_index_or (pieces_of content link) i (0, 0) ≡ (1 + i, get_or content i 0)
pieces_of-content content link i within =
    get_or-append (enumerate_from 1 content) ((0, link) ∷ []) (0, 0) i (omega (arith, length-enumerate_from 1 content)) ∙ get_or-enumerate_from 1 content i (0, 0) within

pieces_of-link : (content : List ℕ) (link i : ℕ) → i ≡ length content → slice_index_or (pieces_of content link) i (0, 0) ≡ (0, link)
pieces_of-link content link i last =
    let end : i ≡ length (enumerate_from 1 content) = omega (arith, length-enumerate_from 1 content) in
    ap (λ n. slice_index_or (pieces_of content link) n (0, 0)) end ∙ get_or-append_seam (enumerate_from 1 content) (0, link) [] (0, 0)

pieces_of-room : (content : List ℕ) (link room : ℕ) → length content < room → (i : ℕ) → i < length (pieces_of content link) → (slice_index_or (pieces_of content link) i (0, 0)).0 < room
pieces_of-room content link room few i within = by (cases_lt i (length content))
  where
    by : (i < length content) ⊎ (length content ≤ i) → (slice_index_or (pieces_of content link) i (0, 0)).0 < room
    by (inl under) = let number = ap (λ (p : Piece). p.0) (pieces_of-content content link i under) in omega arith
    by (inr over) =
        let last : i ≡ length content = omega (arith, length-pieces_of content link) in
        let number = ap (λ (p : Piece). p.0) (pieces_of-link content link i last) in
        omega arith

-- ---- the word that is due

room_of-most : (class : ℕ) → class < CLASSES → room_of class ≤ OBJECT_WORDS
room_of-most zero below = omega arith
room_of-most (suc zero) below = omega arith
room_of-most (suc (suc zero)) below = omega arith
room_of-most (suc (suc (suc zero))) below = omega arith
room_of-most (suc (suc (suc (suc zero)))) below = omega arith
room_of-most (suc (suc (suc (suc (suc zero))))) below = omega arith
room_of-most (suc (suc (suc (suc (suc (suc n)))))) below = absurd (omega arith)

pub due-low : (view : Viewed) (write now : WordsWrite) (due : Piece) → IsWordsWrite view write → write ≡ now → due ≡ present_piece now → due.0 < OBJECT_WORDS
due-low view write now due is held same =
    let number : due.0 ≡ (present_piece write).0 = ap (λ (p : Piece). p.0) (same ∙ ap present_piece (sym held)) in
    omega (arith, is.room write.piece is.piece, room_of-most is.class is.object.class)

pub due-has : (view : Viewed) (write now : WordsWrite) (due : Piece) → IsWordsWrite view write → write ≡ now → due ≡ present_piece now → HasWord write.view.shape (object_word write.pointer due.0)
due-has view write now due is held same =
    let number : due.0 ≡ (present_piece write).0 = ap (λ (p : Piece). p.0) (same ∙ ap present_piece (sym held)) in
    let P : ℕ → Type 0 = λ n. HasWord write.view.shape (object_word write.pointer n) in
    subst P (sym number) (object_word-has write.view.shape (record { pointer = write.pointer; class = is.class }) (present_piece write).0 is.object (is.room write.piece is.piece))

-- ---- a writing begins

-- the first word of an object is a word of the pool
pub first-has : (sizes : Sizes) (class pointer : ℕ) → IsObject sizes (record { pointer = pointer; class = class }) → HasWord sizes (object_word pointer 0)
first-has sizes class pointer is = object_word-has sizes (record { pointer = pointer; class = class }) 0 is (omega (arith, room_of-eight class is.class))

pub pointer-low : (sizes : Sizes) (class pointer : ℕ) → IsObject sizes (record { pointer = pointer; class = class }) → pointer < 2 ^ 28
pointer-low sizes class pointer is = (names_object-says sizes class pointer is.named).below

begun-object : (view : Viewed) (class pointer : ℕ) (content : List ℕ) (link : ℕ) → IsView view → IsObject view.shape (record { pointer = pointer; class = class }) → length content + 1 ≤ room_of class
    → IsObjectWrite (object_write_of (course_of view pointer) content link) content
begun-object view class pointer content link is named room = record {
  state = words_write_of-is view pointer class (pieces_of content link) is named (omega (arith, length-pieces_of content link)) (pieces_of-room content link (room_of class) (omega arith));
  long = length-pieces_of content link;
  few = omega (arith, room_of-most class named.class);
}

-- an object of the class for a key and a value has room for their words
pub for_lengths : (sizes : Sizes) (key_len value_len pointer : ℕ) → IsKeyLength key_len → value_len ≤ LONGEST → names_object sizes (class_in key_len value_len) pointer ≡ true
    → IsObject sizes (record { pointer = pointer; class = class_in key_len value_len }) × (words_of key_len value_len ≤ room_of (class_in key_len value_len))
for_lengths sizes key_len value_len pointer key value named =
    let is = class_in-is key_len value_len key value in
    (record { class = is.0; named = named }, is.1)

length-padded_words : (bytes : List ℕ) → length (padded_words bytes) ≡ words_for (length bytes)
length-padded_words bytes = length-map-range_with_len (word_from bytes) 0 (words_for (length bytes))

-- three words, the key's and the value's
pub content-room : (front with_key : List ℕ) (key value : List ℕ) → length front ≡ 3 → with_key ≡ front ++ padded_words key → IsKeyLength (length key) → length value ≤ LONGEST
    → length with_key + words_for (length value) ≤ OBJECT_WORDS
content-room front with_key key value three is key_len value_len =
    let long = ap length is in
    let words = words_of-bounds (length key) (length value) key_len value_len in
    omega (arith, words.1, length-append front (padded_words key), length-padded_words key)

content-length : (kind : Kind) (key value : List ℕ) → length (content_of kind key value) + 1 ≡ words_of (length key) (length value)
content-length kind key value =
    omega (arith, length-append (padded_words key) (padded_words value), length-padded_words key, length-padded_words value)

pub begun-body : (view : Viewed) (pointer : ℕ) (kind : Kind) (key value : List ℕ) (link : ℕ) → IsView view → IsKeyLength (length key) → length value ≤ LONGEST
    → names_object view.shape (class_in (length key) (length value)) pointer ≡ true → IsObjectWrite (object_write_of (course_of view pointer) (content_of kind key value) link) (content_of kind key value)
begun-body view pointer kind key value link is key_len value_len named =
    let of_class = for_lengths view.shape (length key) (length value) pointer key_len value_len named in
    begun-object view (class_in (length key) (length value)) pointer (content_of kind key value) link is of_class.0 (omega (arith, of_class.1, content-length kind key value))
