-- The bytes of a value's words, one word after the other.
use Rattle.std.proofs.Common.{◌≡◌, ◌≢◌, ℕ, zero, suc, ◌+◌, ◌*◌, ◌/◌, ◌^◌, ◌<◌, ◌≤◌, ◌==◌, Bool, true, false, List, [], ◌∷◌, ◌++◌, length, map, drop, get_or, refl, sym, ap, ap₂, ◌∙◌, subst, zero-add, arith, length-append, append-nil}
use Rattle.std.specs.Int.{w64, from_le_bytes, to_le_bytes}
use Rattle.std.specs.List.{range_with_len}
use Rattle.std.proofs.Math.Seq.{drop-append_seam}
use Rattle.std.proofs.lemmas.List.{drop-append-le, get_or_append_left, length-drop}
use Rattle.std.proofs.lemmas.List.FromFn.{map-range_with_len_more}
use Rattle.std.proofs.lemmas.Nat.{from_le_bytes-to_le_bytes_8}
use Rattle.machine.specs.EpochRead.{IsView}
use Rattle.machine.specs.ObjectNames.{IsObject, pointer_in}
use Rattle.machine.specs.Places.{IsInPool, object_word, primary_place}
use Rattle.machine.specs.ValueRead.{ValueRead, turn, value_read_of, with_next}
use Rattle.machine.proofs.KeyTestLemmas.{room_of-eight}
use Rattle.machine.proofs.ObjectNamesLemmas.{object_in-is, object_in-pointer, object_word-has}
use Rattle.machine.proofs.ValueReadLemmas.{next-inside, value_read_of-is}
use Rattle.object_form.proofs.ClassLemmas.{units_of-bounds}
use Rattle.object_form.proofs.ContentLemmas.{bytes_of_words-append, from_le_bytes-same, length-padded_words}
use Rattle.object_form.specs.declared.classes.TheConstants.{OBJECT_WORDS}
use Rattle.object_form.specs.Class.{room_of, words_for}
use Rattle.object_form.specs.Content.{bytes_of_words, padded_words, word_from}
use Rattle.region_view.specs.Layout.{HasWord}
use Rattle.region_view.specs.Placed.{Viewed}
use Rattle.region_view.specs.Sizes.{Sizes}
use Rattle.verb_words.specs.declared.verbs.Answer.TheVariants.{Word}
use Rattle.verb_words.specs.declared.verbs.Place.{Place}
use Rattle.kv_find.specs.Readings.{HasRoom, IsHeld, read_of}

map_range-same : (f g : ℕ → ℕ) (from len : ℕ) → ((i : ℕ) → from ≤ i → i < from + len → f i ≡ g i) → map f (range_with_len from len) ≡ map g (range_with_len from len)
map_range-same f g from zero same = refl
map_range-same f g from (suc len) same =
    ap₂ (λ (x : ℕ) (xs : List ℕ). x ∷ xs) (same from (omega arith) (omega arith)) (map_range-same f g (from + 1) len (λ i least most. same i (omega arith) (omega arith)))

-- a word lies in the bytes before
word_from-append : (bytes more : List ℕ) (i : ℕ) → 8 * i + 8 ≤ length bytes → word_from (bytes ++ more) i ≡ word_from bytes i
unfolding word_from
word_from-append bytes more i within =
    from_le_bytes-same (drop (8 * i) (bytes ++ more)) (drop (8 * i) bytes) (λ k below.
    ap (λ l. get_or l k 0) (drop-append-le (8 * i) bytes more (omega arith))
    ∙ get_or_append_left (drop (8 * i) bytes) more 0 k (omega (arith, length-drop (8 * i) bytes)))

-- the word whose bytes come last
word_from-last : (bytes : List ℕ) (count word : ℕ) → length bytes ≡ 8 * count → word < 2 ^ 64 → word_from (bytes ++ to_le_bytes w64 word) count ≡ word
unfolding word_from
word_from-last bytes count word long below =
    let all = bytes ++ to_le_bytes w64 word in
    ap (from_le_bytes w64) (ap (λ m. drop m all) (sym long) ∙ drop-append_seam bytes (to_le_bytes w64 word)) ∙ from_le_bytes-to_le_bytes_8 word below

-- the words of bytes and of one word's more
pub padded_words-more : (bytes : List ℕ) (count word : ℕ) → length bytes ≡ 8 * count → word < 2 ^ 64 → padded_words (bytes ++ to_le_bytes w64 word) ≡ padded_words bytes ++ word ∷ []
padded_words-more bytes count word long below =
    let all = bytes ++ to_le_bytes w64 word in
    let eight : length (to_le_bytes w64 word) ≡ 8 = refl in
    let whole : words_for (length all) ≡ count + 1 = omega (arith, length-append bytes (to_le_bytes w64 word)) in
    let before : count ≡ words_for (length bytes) = omega arith in
    ap (λ k. map (word_from all) (range_with_len 0 k)) whole
    ∙ map-range_with_len_more (word_from all) 0 count count (zero-add count)
    ∙ ap₂ (λ (front : List ℕ) (last : ℕ). front ++ last ∷ [])
    (map_range-same (word_from all) (word_from bytes) 0 count (λ i least most. word_from-append bytes (to_le_bytes w64 word) i (omega arith)) ∙ ap (λ k. map (word_from bytes) (range_with_len 0 k)) before)
    (word_from-last bytes count word long below)

bytes_of_words-more : (words : List ℕ) (word : ℕ) → bytes_of_words (words ++ word ∷ []) ≡ bytes_of_words words ++ to_le_bytes w64 word
bytes_of_words-more words word = bytes_of_words-append words (word ∷ []) ∙ ap (λ l. bytes_of_words words ++ l) (append-nil (to_le_bytes w64 word))

-- the object that a word names has a first word
pub named_word-has : (sizes : Sizes) (word key_len value_len : ℕ) → HasRoom sizes word key_len value_len → HasWord sizes (object_word (pointer_in word) 0)
named_word-has sizes word key_len value_len has =
    let is = object_in-is sizes word has.object has.named in
    let P : ℕ → Type 0 = λ pointer. HasWord sizes (object_word pointer 0) in
    subst P (object_in-pointer sizes word has.object has.named) (object_word-has sizes has.object 0 is (omega (arith, room_of-eight has.object.class is.class)))

room_of-most : (class : ℕ) → class < 6 → room_of class ≤ 256
room_of-most class below = omega (arith, units_of-bounds class below)

-- a key that an object has room for is no longer than one
pub key-room : (sizes : Sizes) (word key_len value_len : ℕ) → HasRoom sizes word key_len value_len → words_for key_len ≤ OBJECT_WORDS
key-room sizes word key_len value_len has =
    omega (arith, has.room, room_of-most has.object.class (object_in-is sizes word has.object has.named).class)

-- the words behind the key's are those of the value
pub behind-key : (view : Viewed) (pointer key_words : ℕ) (object : Place) → ((i : ℕ) → primary_place view (object_word pointer i) ≡ record { node = object.node; at = object.at + i })
    → (i : ℕ) → primary_place view (object_word pointer (4 + key_words + i)) ≡ record { node = object.node; at = object.at + 4 + key_words + i }
behind-key view pointer key_words object places i =
    let same : object.at + (4 + key_words + i) ≡ object.at + 4 + key_words + i = omega arith in
    places (4 + key_words + i) ∙ ap (λ (at : ℕ). record { node = object.node; at = at }) same

-- a reading at its beginning
pub begun-held : (view : Viewed) (word key_len value_len : ℕ) (first : Place) → IsView view → HasRoom view.shape word key_len value_len → 1 ≤ value_len
    → ((i : ℕ) → primary_place view (object_word (pointer_in word) (4 + words_for key_len + i)) ≡ record { node = first.node; at = first.at + i }) → first.at < 2 ^ 22
    → IsHeld (value_read_of view (pointer_in word) key_len value_len) [] first
begun-held view word key_len value_len first is has some places below =
    let named = object_in-is view.shape word has.object has.named in
    let P : ℕ → Type 0 = λ pointer. IsObject view.shape (record { pointer = pointer; class = has.object.class }) in
    let most = room_of-most has.object.class named.class in
    record {
      state = λ under. value_read_of-is view (pointer_in word) has.object.class key_len value_len is (subst P (object_in-pointer view.shape word has.object has.named) named) has.room some;
      filled = refl;
      long = refl;
      most = omega (arith, has.room);
      places = places;
      below = below;
    }

-- one more word was read
pub more-held : (read : ValueRead) (bytes more : List ℕ) (first : Place) (found : ℕ) → IsHeld read bytes first → length read.words < words_for read.value_len → more ≡ bytes ++ to_le_bytes w64 found
    → IsHeld (with_next read found) more first
more-held read bytes more first found held under are =
    let long = length-append read.words (found ∷ []) in
    let eight : length (to_le_bytes w64 found) ≡ 8 = refl in
    let was = held.state under in
    record {
      state = λ still. record { held = was.held; is_view = was.is_view; class = was.class; object = was.object; room = was.room; words = still };
      filled = are ∙ ap (λ l. l ++ to_le_bytes w64 found) held.filled ∙ sym (bytes_of_words-more read.words found);
      long = omega (arith, ap length are, length-append bytes (to_le_bytes w64 found), held.long);
      most = held.most;
      places = held.places;
      below = held.below;
    }

-- its verb goes to a place of the pool
pub held_next-inside : (read now : ValueRead) (bytes : List ℕ) (first : Place) (count : ℕ) → IsHeld read bytes first → read ≡ now → length now.words < words_for now.value_len → count ≡ length now.words
    → IsInPool now.view.shape (record { node = first.node; at = first.at + count })
held_next-inside read now bytes first count held is under same =
    let P : ValueRead → Type 0 = λ r. length r.words < words_for r.value_len → count ≡ length r.words → IsInPool r.view.shape (record { node = first.node; at = first.at + count }) in
    let inside : P read = λ less many.
    let Q : ℕ → Type 0 = λ k. IsInPool read.view.shape (record { node = first.node; at = first.at + k }) in
    subst Q (sym many) (subst (IsInPool read.view.shape) (held.places (length read.words)) (next-inside read.view read (held.state less))) in
    subst P is inside under same

-- the words of a reading after one more word's bytes
pub pushed-is : (view : Viewed) (pointer key_len value_len : ℕ) (bytes more : List ℕ) (first : Place) (found : ℕ) (now : ValueRead) → IsHeld (read_of view pointer key_len value_len bytes) bytes first
    → read_of view pointer key_len value_len bytes ≡ now → found < 2 ^ 64 → more ≡ bytes ++ to_le_bytes w64 found → read_of view pointer key_len value_len more ≡ with_next now found
pushed-is view pointer key_len value_len bytes more first found now held is below are =
    let words = ap padded_words are ∙ padded_words-more bytes (length (padded_words bytes)) found held.long below in
    ap (λ (ws : List ℕ). record { view = view; pointer = pointer; key_len = key_len; value_len = value_len; words = ws }) words ∙ ap (λ (r : ValueRead). with_next r found) is

pub pushed-held : (view : Viewed) (pointer key_len value_len : ℕ) (bytes more : List ℕ) (first : Place) (found : ℕ) (now : ValueRead) → IsHeld (read_of view pointer key_len value_len bytes) bytes first
    → read_of view pointer key_len value_len bytes ≡ now → length now.words < words_for now.value_len → found < 2 ^ 64 → more ≡ bytes ++ to_le_bytes w64 found
    → IsHeld (read_of view pointer key_len value_len more) more first
pushed-held view pointer key_len value_len bytes more first found now held is under below are =
    let P : ValueRead → Type 0 = λ r. length r.words < words_for r.value_len in
    let read = read_of view pointer key_len value_len bytes in
    let Q : ValueRead → Type 0 = λ r. IsHeld r more first in
    subst Q (sym (pushed-is view pointer key_len value_len bytes more first found read held refl below are)) (more-held read bytes more first found held (subst P (sym is) under) are)

-- a word that is read is added, whether or not it is the last
pub turn-word : (read : ValueRead) (found : ℕ) → (turn read (Word found)).state ≡ with_next read found
turn-word read found = by (length read.words + 1 == words_for read.value_len) refl
  where
    by : (t : Bool) → (length read.words + 1 == words_for read.value_len) ≡ t → (turn read (Word found)).state ≡ with_next read found
    by true last = rw last refl
    by false more = rw more refl

-- where the word that was read is not the last, one is still to be read
pub still-unread : (view : Viewed) (pointer key_len value_len : ℕ) (bytes more : List ℕ) (first : Place) (found : ℕ) (now : ValueRead) → IsHeld (read_of view pointer key_len value_len bytes) bytes first
    → read_of view pointer key_len value_len bytes ≡ now → length now.words < words_for now.value_len → more ≡ bytes ++ to_le_bytes w64 found → length more / 8 ≢ words_for value_len
    → length (padded_words more) < words_for value_len
still-unread view pointer key_len value_len bytes more first found now held is under are other =
    let P : ValueRead → Type 0 = λ r. length r.words < words_for r.value_len in
    let before : length (padded_words bytes) < words_for value_len = subst P (sym is) under in
    let eight : length (to_le_bytes w64 found) ≡ 8 = refl in
    let grown : length more ≡ 8 * (length (padded_words bytes) + 1) = omega (arith, ap length are, length-append bytes (to_le_bytes w64 found), held.long) in
    let count : length more / 8 ≡ length (padded_words bytes) + 1 = omega arith in
    let words : length (padded_words more) ≡ length (padded_words bytes) + 1 = omega (arith, length-padded_words more) in
    omega (arith, other)
