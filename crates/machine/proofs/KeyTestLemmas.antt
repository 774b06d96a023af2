-- A test of a key stays one, and its verbs go to places of the pool.
use Rattle.std.proofs.Common.{◌≡◌, ℕ, ◌+◌, ◌<◌, ◌≤◌, ◌==◌, Bool, true, false, List, length, Option, Some, None, refl, sym, ap, subst, ◌∙◌, arith}
use Rattle.std.proofs.lemmas.Bool.Decides.{nat_tests}
use Rattle.std.proofs.lemmas.Option.{option_and_then_some}
use Rattle.machine.specs.declared.key_test.Tested.TheVariants.{Going, Same, Other}
use Rattle.machine.specs.EpochRead.{IsView}
use Rattle.machine.specs.KeyTest.{IsAt, IsKeyTest, KeyTest, Length, Part, Phase, fits, fitting, key_test_of, meta_for, next, turn, turn_at, verb_at}
use Rattle.machine.specs.ObjectNames.{IsObject, Object}
use Rattle.machine.specs.Places.{IsInPool, object_word, primary_place}
use Rattle.machine.proofs.ObjectNamesLemmas.{checked, names_object-says, object_word-has}
use Rattle.machine.proofs.PlacesLemmas.{primary_place-inside}
use Rattle.object_form.proofs.ClassLemmas.{units_of-bounds}
use Rattle.object_form.specs.declared.metas.Kind.{Kind}
use Rattle.object_form.specs.declared.metas.Meta.{Meta}
use Rattle.object_form.specs.Class.{room_of, words_for, words_of}
use Rattle.object_form.specs.Content.{word_from}
use Rattle.object_form.specs.Meta.{meta_in}
use Rattle.region_view.specs.Placed.{Viewed}
use Rattle.verb_words.specs.declared.verbs.Answer.{Answer}
use Rattle.verb_words.specs.declared.verbs.Answer.TheVariants.{Word, Done, Lost}
use Rattle.verb_words.specs.declared.verbs.Verb.TheVariants.{Read}
use Rattle.verb_words.specs.Verb.{place_of}

pub key_test_of-is : (view : Viewed) (key : List ℕ) (object : Object) → IsView view → 1 ≤ length key → IsObject view.shape object → IsKeyTest view key (key_test_of view key object)
key_test_of-is view key object is some named = record { held = refl; is_view = is; same = refl; some = some; object = named; phase = tt }

-- the same test at another phase
at_phase : (view : Viewed) (key : List ℕ) (test : KeyTest) (phase : Phase) → IsKeyTest view key test → IsAt phase (length test.key) test.object.class → IsKeyTest view key (record test { phase = phase })
at_phase view key test phase is at = record { held = is.held; is_view = is.is_view; same = is.same; some = is.some; object = is.object; phase = at }

-- a meta for the key leaves room for the key and the value
pub meta_for-room : (test : KeyTest) (found : ℕ) (meta : Meta) → meta_for test found ≡ Some meta → words_of (length test.key) meta.value_len ≤ room_of test.object.class
meta_for-room test found meta is =
    option_and_then_some (fitting (length test.key) test.object.class) (meta_in found) meta is (λ said read fitted.
    let both = checked (fits (length test.key) test.object.class said) said meta fitted in
    let same : said.value_len ≡ meta.value_len = ap (λ (m : Meta). m.value_len) both.1 in
    let fit : fits (length test.key) test.object.class said ≡ true = both.0 in
    let len : said.key_len ≡ length test.key = grind (arith, nat_tests) in
    let room : words_of said.key_len said.value_len ≤ room_of test.object.class = grind (arith, nat_tests) in
    let P : ℕ → Type 0 = λ n. words_of n meta.value_len ≤ room_of test.object.class in
    let Q : ℕ → Type 0 = λ n. words_of said.key_len n ≤ room_of test.object.class in
    subst P len (subst Q same room))

pub turn_at-is : (view : Viewed) (key : List ℕ) (test : KeyTest) (phase : Phase) (found : ℕ) → test.phase ≡ phase → IsKeyTest view key test → IsKeyTest view key (turn_at phase test found).state
turn_at-is view key test Length found at is = by (meta_for test found) refl
  where
    by : (meta : Option Meta) → meta_for test found ≡ meta → IsKeyTest view key (turn_at Length test found).state
    by None none = rw none is
    by (Some meta) some = rw some (at_phase view key test (Part 0 meta.kind meta.value_len) is (omega (arith, is.some), meta_for-room test found meta some))
turn_at-is view key test (Part word kind value_len) found at is = by (found == word_from test.key word) refl (word + 1 == words_for (length test.key)) refl
  where
    room : IsAt (Part word kind value_len) (length test.key) test.object.class
    room = let P : Phase → Type 0 = λ p. IsAt p (length test.key) test.object.class in subst P at is.phase

    by : (t : Bool) → (found == word_from test.key word) ≡ t → (u : Bool) → (word + 1 == words_for (length test.key)) ≡ u
        → IsKeyTest view key (turn_at (Part word kind value_len) test found).state
    by false other u last = rw other is
    by true same true last = rw (same, last) is
    by true same false more = rw (same, more) (at_phase view key test (Part (word + 1) kind value_len) is (grind (arith, nat_tests), room.1))

-- a test of a key stays one, whatever is answered
pub turn-is : (view : Viewed) (key : List ℕ) (test : KeyTest) (answer : Answer) → IsKeyTest view key test → IsKeyTest view key (turn test answer).state
turn-is view key test (Word found) is = turn_at-is view key test test.phase found refl is
turn-is view key test Done is = is
turn-is view key test Lost is = is

-- the object whose key is tested stays
pub turn-object : (test : KeyTest) (answer : Answer) → (turn test answer).state.object ≡ test.object
turn-object test (Word found) = at test.phase
  where
    by_meta : (meta : Option Meta) → meta_for test found ≡ meta → (turn_at Length test found).state.object ≡ test.object
    by_meta None none = rw none refl
    by_meta (Some meta) some = rw some refl

    by_word : (word : ℕ) (kind : Kind) (value_len : ℕ) (t : Bool) → (found == word_from test.key word) ≡ t → (u : Bool) → (word + 1 == words_for (length test.key)) ≡ u
        → (turn_at (Part word kind value_len) test found).state.object ≡ test.object
    by_word word kind value_len false other u last = rw other refl
    by_word word kind value_len true same true last = rw (same, last) refl
    by_word word kind value_len true same false more = rw (same, more) refl

    at : (phase : Phase) → (turn_at phase test found).state.object ≡ test.object
    at Length = by_meta (meta_for test found) refl
    at (Part word kind value_len) = by_word word kind value_len (found == word_from test.key word) refl (word + 1 == words_for (length test.key)) refl
turn-object test Done = refl
turn-object test Lost = refl

-- where the object has the key, it has room for the key and for a value of the length that is told
pub turn-room : (view : Viewed) (key : List ℕ) (test : KeyTest) (answer : Answer) (kind : Kind) (value_len : ℕ) → IsKeyTest view key test → (turn test answer).told ≡ Same kind value_len
    → words_of (length test.key) value_len ≤ room_of test.object.class
turn-room view key test Done kind value_len is told = absurd cc
turn-room view key test Lost kind value_len is told = absurd cc
turn-room view key test (Word found) kind value_len is told = at test.phase refl told
  where
    by_meta : (meta : Option Meta) → meta_for test found ≡ meta → (turn_at Length test found).told ≡ Same kind value_len → words_of (length test.key) value_len ≤ room_of test.object.class
    by_meta None none tells = let bad : Other ≡ Same kind value_len = sym (rw none refl) ∙ tells in absurd cc
    by_meta (Some meta) some tells = let bad : Going ≡ Same kind value_len = sym (rw some refl) ∙ tells in absurd cc

    by_word : (word : ℕ) (kind' : Kind) (len : ℕ) → words_of (length test.key) len ≤ room_of test.object.class → (t : Bool) → (found == word_from test.key word) ≡ t → (u : Bool)
        → (word + 1 == words_for (length test.key)) ≡ u → (turn_at (Part word kind' len) test found).told ≡ Same kind value_len → words_of (length test.key) value_len ≤ room_of test.object.class
    by_word word kind' len room false other u last tells = let bad : Other ≡ Same kind value_len = sym (rw other refl) ∙ tells in absurd cc
    by_word word kind' len room true same false more tells = let bad : Going ≡ Same kind value_len = sym (rw (same, more) refl) ∙ tells in absurd cc
    by_word word kind' len room true same true last tells =
        let good : Same kind' len ≡ Same kind value_len = sym (rw (same, last) refl) ∙ tells in
        let equal : len ≡ value_len = cc in
        let P : ℕ → Type 0 = λ n. words_of (length test.key) n ≤ room_of test.object.class in
        subst P equal room

    at : (phase : Phase) → test.phase ≡ phase → (turn_at phase test found).told ≡ Same kind value_len → words_of (length test.key) value_len ≤ room_of test.object.class
    at Length is_at tells = by_meta (meta_for test found) refl tells
    at (Part word kind' len) is_at tells =
        let P : Phase → Type 0 = λ p. IsAt p (length test.key) test.object.class in
        by_word word kind' len (subst P is_at is.phase).1 (found == word_from test.key word) refl (word + 1 == words_for (length test.key)) refl tells

-- an object has eight words at least
pub room_of-eight : (class : ℕ) → class < 6 → 8 ≤ room_of class
room_of-eight class below = omega (arith, units_of-bounds class below)

-- a word of an object of the pool has its primary's place in the pool
pub object_place-inside : (view : Viewed) (object : Object) (i : ℕ) → IsView view → IsObject view.shape object → i < room_of object.class → IsInPool view.shape (place_of (Read (primary_place view (object_word object.pointer i))))
object_place-inside view object i is named below =
    primary_place-inside view (object_word object.pointer i) is (object_word-has view.shape object i named below)
    (names_object-says view.shape object.class object.pointer named.named).region.1

verb_at-inside : (view : Viewed) (key : List ℕ) (test : KeyTest) (phase : Phase) → test.phase ≡ phase → IsKeyTest view key test → IsInPool test.view.shape (place_of (verb_at phase test))
verb_at-inside view key test Length at is = object_place-inside test.view test.object 1 is.is_view is.object (omega (arith, room_of-eight test.object.class is.object.class))
verb_at-inside view key test (Part word kind value_len) at is =
    let P : Phase → Type 0 = λ p. IsAt p (length test.key) test.object.class in
    let room : IsAt (Part word kind value_len) (length test.key) test.object.class = subst P at is.phase in
    object_place-inside test.view test.object (4 + word) is.is_view is.object (omega (arith, room.0, room.1))

-- its verb goes to a place of the pool
pub next-inside : (view : Viewed) (key : List ℕ) (test : KeyTest) → IsKeyTest view key test → IsInPool view.shape (place_of (next test))
next-inside view key test is =
    let P : Viewed → Type 0 = λ v. IsInPool v.shape (place_of (next test)) in
    subst P is.held (verb_at-inside view key test test.phase refl is)
