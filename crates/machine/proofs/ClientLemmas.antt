-- A client stays one, whatever its verbs are answered.
use Rattle.std.proofs.Common.{◌≡◌, ℕ, zero, suc, ◌+◌, ◌*◌, ◌%◌, ◌^◌, ◌<◌, ◌≤◌, ◌⊎◌, inl, inr, Bool, true, false, List, [], ◌∷◌, ◌++◌, length, filter, find, Option, Some, None, refl, sym, ap, subst, ◌∙◌, arith, length-append}
use Rattle.std.specs.Prelude.{All, nat_le, not, unwrap_or, slice_index_or}
use Rattle.std.specs.List.{enumerate_from, range_with_len}
use Rattle.std.proofs.Math.ListN.{get_or-append}
use Rattle.std.proofs.Math.Seq.{get_or-append_seam}
use Rattle.std.proofs.lemmas.Bool.{cases_lt, false≢true, le-leb, leb-true}
use Rattle.std.proofs.lemmas.Slice.Eq.{bytes_eq-Decides}
use Rattle.std.specs.Str.{bytes_eq}
use Rattle.std.proofs.lemmas.List.Elements.{All-append, All-filter, All-take}
use Rattle.std.proofs.lemmas.List.FromFn.{get_or-enumerate_from, length-enumerate_from, length-map-range_with_len}
use Rattle.machine.specs.Client.{kind_of, link_of, own_object, search_of, slot_of, view_of, write_body}
use Rattle.machine.specs.EpochRead.{IsView}
use Rattle.machine.specs.KeySearch.{IsKeySearch}
use Rattle.machine.specs.ObjectNames.{IsObject}
use Rattle.machine.specs.Remembered.{Pair, is_of, place_for, with_place}
use Rattle.machine.specs.Stage.{Client}
use Rattle.machine.specs.Standing.{HasObject, IsCall, IsMember, IsPlaceOf}
use Rattle.machine.specs.WordsWrite as words
use Rattle.machine.specs.WordsWrite.{IsWordsWrite, Piece, WordsWrite, body_of, log_of}
use Rattle.machine.proofs.KeySearchLemmas.{order_of-some}
use Rattle.machine.proofs.KeySearchLemmas as of_search
use Rattle.machine.proofs.KeySearchLemmas.{IsFoundAt}
use Rattle.machine.proofs.KeyTestLemmas.{room_of-eight}
use Rattle.machine.proofs.StockLemmas.{find-All}
use Rattle.machine.proofs.WordsWriteLemmas as of_words
use Rattle.object_form.proofs.ClassLemmas.{words_of-bounds}
use Rattle.object_form.specs.Class.{class_in, IsKeyLength, room_of, words_for, words_of}
use Rattle.object_form.specs.Content.{padded_words, word_from}
use Rattle.object_form.specs.Link.{word_of_link}
use Rattle.object_form.specs.Meta.{word_of_meta}
use Rattle.object_form.specs.declared.classes.TheConstants.{CLASSES, LONGEST}
use Rattle.object_form.specs.declared.links.Link.{Link}
use Rattle.object_form.specs.declared.metas.Kind.{Kind}
use Rattle.region_view.specs.Sizes.{Sizes}
use Rattle.slot_order.proofs.OrderLemmas.{order_of-below}
use Rattle.slot_order.specs.Slots.{order_of}

-- Remembered places.

pub bytes_same : (xs ys : List ℕ) → bytes_eq xs ys ≡ true → xs ≡ ys
bytes_same xs ys same = (bytes_eq-Decides xs ys).0 same

pub place_for-below : (sizes : Sizes) (pairs : List Pair) (key : List ℕ) → All (IsPlaceOf sizes) pairs → place_for pairs key < length (order_of key sizes.groups)
place_for-below sizes pairs key all = by (find (is_of key) pairs) refl
  where
    by : (found : Option Pair) → find (is_of key) pairs ≡ found → place_for pairs key < length (order_of key sizes.groups)
    by None none = rw none (order_of-some key sizes.groups)
    by (Some pair) some =
        let both = find-All (IsPlaceOf sizes) (is_of key) pairs pair all some in
        let same : pair.0 ≡ key = bytes_same pair.0 key both.0 in
        let P : List ℕ → Type 0 = λ k. pair.1 < length (order_of k sizes.groups) in
        rw some (subst P same both.1)

pub with_place-all : (sizes : Sizes) (pairs : List Pair) (key : List ℕ) (place : ℕ) → All (IsPlaceOf sizes) pairs → place < length (order_of key sizes.groups) → All (IsPlaceOf sizes) (with_place pairs key place)
with_place-all sizes pairs key place all below =
    All-take (IsPlaceOf sizes) 16 ((key, place) ∷ filter (λ pair. not (is_of key pair)) pairs)
    (All-append (IsPlaceOf sizes) ((key, place) ∷ []) (filter (λ pair. not (is_of key pair)) pairs) (λ k d under. let first : k ≡ 0 = omega arith in rw first below)
    (All-filter (λ pair. not (is_of key pair)) (IsPlaceOf sizes) pairs all))

-- Inner programs as they begin.

-- the call's object is one of the pool
pub own_object-is : (client : Client) → HasObject client.shape client.key client.value client.class client.object → IsObject client.shape (own_object client)
own_object-is client has = record { class = has.of_class.below; named = has.named }

-- the call's slot is one of the index
pub slot_of-below : (s : Sizes) (n : ℕ) (client : Client) → IsMember s n client.shape client.client client.stock client.remembered → client.place < length (order_of client.key client.shape.groups)
    → slot_of client < 24 * client.shape.groups
slot_of-below s n client member below = order_of-below client.key client.shape.groups (omega (arith, member.limits.groups)) client.place 0 below

pub search_of-is : (s : Sizes) (n : ℕ) (client : Client) → IsMember s n client.shape client.client client.stock client.remembered → IsCall client.key client.value → IsView (view_of client)
    → IsKeySearch (view_of client) client.key (search_of client)
search_of-is s n client member call is =
    of_search.key_search_of-is (view_of client) client.key (place_for client.remembered client.key) is call.key_len.0 (place_for-below client.shape client.remembered client.key member.places)

length-padded_words : (bytes : List ℕ) → length (padded_words bytes) ≡ words_for (length bytes)
length-padded_words bytes = length-map-range_with_len (word_from bytes) 0 (words_for (length bytes))

-- the words of a body stand in an object with room for the key and the value
body_of-room : (kind : Kind) (key value : List ℕ) (link : Link) (class : ℕ) → class < CLASSES → words_of (length key) (length value) ≤ room_of class
    → (i : ℕ) → i < length (body_of kind key value link) → (slice_index_or (body_of kind key value link) i (0, 0)).0 < room_of class
body_of-room kind key value link class below room i within = by (cases_lt i (length numbered))
  where
    content : List ℕ
    content = word_of_meta (record { kind = kind; key_len = length key; value_len = length value }) ∷ 0 ∷ 0 ∷ (padded_words key ++ padded_words value)

    numbered : List Piece
    numbered = enumerate_from 1 content

    last : List Piece
    last = (0, word_of_link link % 2 ^ 64) ∷ []

    long : length numbered ≡ 3 + (words_for (length key) + words_for (length value))
    long = length-enumerate_from 1 content ∙ omega (arith, length-append (padded_words key) (padded_words value), length-padded_words key, length-padded_words value)

    by : (i < length numbered) ⊎ (length numbered ≤ i) → (slice_index_or (numbered ++ last) i (0, 0)).0 < room_of class
    by (inl under) =
        let here : slice_index_or (numbered ++ last) i (0, 0) ≡ slice_index_or numbered i (0, 0) = get_or-append numbered last (0, 0) i under in
        let there = get_or-enumerate_from 1 content i (0, 0) (omega (arith, length-enumerate_from 1 content)) in
        let number : (slice_index_or (numbered ++ last) i (0, 0)).0 ≡ 1 + i = ap (λ (p : Piece). p.0) here ∙ ap (λ (p : Piece). p.0) there in
        subst (λ n. n < room_of class) (sym number) (omega (arith, room, long))
    by (inr beyond) =
        let end : i ≡ length numbered = omega (arith, length-append numbered last) in
        let here : slice_index_or (numbered ++ last) i (0, 0) ≡ (0, word_of_link link % 2 ^ 64) = ap (λ n. slice_index_or (numbered ++ last) n (0, 0)) end ∙ get_or-append_seam numbered (0, word_of_link link % 2 ^ 64) [] (0, 0) in
        let number : (slice_index_or (numbered ++ last) i (0, 0)).0 ≡ 0 = ap (λ (p : Piece). p.0) here in
        subst (λ n. n < room_of class) (sym number) (omega (arith, room_of-eight class below))

-- a writing of the object's words under the view
pub write_body-is : (client : Client) → IsView (view_of client) → HasObject client.shape client.key client.value client.class client.object → IsWordsWrite (view_of client) (write_body client)
write_body-is client is has =
    of_words.words_write_of-is (view_of client) client.object client.class (body_of (kind_of client.operation) client.key client.value (link_of client)) is (own_object-is client has)
    (omega (arith, length-append (enumerate_from 1 (word_of_meta (record { kind = kind_of client.operation; key_len = length client.key; value_len = length client.value }) ∷ 0 ∷ 0 ∷ (padded_words client.key ++ padded_words client.value))) ((0, word_of_link (link_of client) % 2 ^ 64) ∷ [])))
    (body_of-room (kind_of client.operation) client.key client.value (link_of client) client.class has.of_class.below has.of_class.room)

-- a logging under the view
pub log-is : (client : Client) (expect version : ℕ) → IsView (view_of client) → HasObject client.shape client.key client.value client.class client.object
    → IsWordsWrite (view_of client) (words.words_write_of (view_of client) client.object (log_of expect version))
log-is client expect version is has = of_words.words_write_of-is (view_of client) client.object client.class (log_of expect version) is (own_object-is client has) (omega arith) numbers
  where
    numbers : (i : ℕ) → i < 2 → (slice_index_or (log_of expect version) i (0, 0)).0 < room_of client.class
    numbers zero under = omega (arith, room_of-eight client.class has.of_class.below)
    numbers (suc zero) under = omega (arith, room_of-eight client.class has.of_class.below)
    numbers (suc (suc i)) under = absurd (omega arith)

-- some number of a range passes a test, so one is found that does
find-some : (test : ℕ → Bool) (from len number : ℕ) → from ≤ number → number < from + len → test number ≡ true
    → (found : ℕ) × (find test (range_with_len from len) ≡ Some found) × (test found ≡ true) × (found < from + len)
find-some test from zero number least below passes = absurd (omega arith)
find-some test from (suc len) number least below passes = by (test from) refl (find-some test (from + 1) len number)
  where
    by : (t : Bool) → test from ≡ t
        → (from + 1 ≤ number → number < from + 1 + len → test number ≡ true → (found : ℕ) × (find test (range_with_len (from + 1) len) ≡ Some found) × (test found ≡ true) × (found < from + 1 + len))
        → (found : ℕ) × (find test (range_with_len from (suc len)) ≡ Some found) × (test found ≡ true) × (found < from + suc len)
    by true is rest = (from, rw is refl, is, omega arith)
    by false is rest =
        let P : ℕ → Type 0 = λ n. test n ≡ false in
        let later : from + 1 ≤ number = elim (cases_lt from number) [ inl under ↦ omega arith | inr over ↦ let same : from ≡ number = omega arith in absurd (false≢true (sym (subst P same is) ∙ passes)) ] in
        let found = rest later (omega arith) passes in
        (found.0, rw is found.1, found.2, omega (arith, found.3))

-- the class of lengths that are taken has room for them
pub class_in-is : (key_len value_len : ℕ) → IsKeyLength key_len → value_len ≤ LONGEST → (class_in key_len value_len < CLASSES) × (words_of key_len value_len ≤ room_of (class_in key_len value_len))
unfolding class_in
class_in-is key_len value_len key value =
    let test : ℕ → Bool = λ class. nat_le (words_of key_len value_len) (room_of class) in
    let words = words_of-bounds key_len value_len key value in
    let found = find-some test 0 CLASSES 5 (omega arith) (omega arith) (le-leb _ _ (omega (arith, words.1))) in
    let P : ℕ → Type 0 = λ class. (class < CLASSES) × (words_of key_len value_len ≤ room_of class) in
    let is : class_in key_len value_len ≡ found.0 = ap (λ o. unwrap_or o 0) found.1 in
    subst P (sym is) (omega (arith, found.3), leb-true _ _ found.2)
