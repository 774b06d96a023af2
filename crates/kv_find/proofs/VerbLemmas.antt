-- A search whose first slot has the key takes two verbs and one for each word of the key.
use Rattle.std.proofs.Common.{◌≡◌, ℕ, zero, suc, ◌+◌, ◌≤◌, ◌==◌, true, false, List, ◌∷◌, length, map, Some, None, refl, sym, ap, ◌∙◌, arith, eq-eqb}
use Rattle.std.specs.List.{range_with_len}
use Rattle.std.specs.Option.{option_and_then}
use Rattle.std.specs.Cmp.Derive.{both_true}
use Rattle.std.proofs.lemmas.Bool.{le-leb}
use Rattle.std.proofs.lemmas.Bool.Decides.{nat_tests}
use Rattle.machine.specs.declared.key_search.Found.TheVariants.{At}
use Rattle.machine.specs.declared.key_search.Found.{Found}
use Rattle.machine.specs.KeySearch.{AtKey, IsKeySearch, KeySearch, key_search_of, slot_at, turn}
use Rattle.machine.specs.KeyTest.{Phase, Length, Part, fits, key_test_of, meta_for}
use Rattle.machine.specs.ObjectNames.{Object, candidate_in, object_in}
use Rattle.machine.proofs.KeySearchLemmas.{turn-found}
use Rattle.machine.proofs.ObjectNamesLemmas.{candidate_in-object}
use Rattle.object_form.proofs.ContentLemmas.{length-padded_words}
use Rattle.object_form.proofs.MetaLemmas.{code-word_of_meta, key_len-word_of_meta, meta_ext, value_len-word_of_meta}
use Rattle.object_form.specs.Class.{room_of, words_for, words_of}
use Rattle.object_form.specs.Content.{word_from}
use Rattle.object_form.specs.declared.metas.Kind.{Kind}
use Rattle.object_form.specs.declared.metas.Kind.TheVariants.{Value, Tombstone}
use Rattle.object_form.specs.declared.metas.Meta.{Meta}
use Rattle.object_form.specs.Meta.{IsMeta, code_of, checked_meta, is_meta, kind_in, meta_fields, meta_in, word_of_meta}
use Rattle.race_slot.proofs.SlotLemmas.{unpacked-empty}
use Rattle.region_view.specs.Placed.{Viewed}
use Rattle.region_view.specs.Sizes.{Sizes}
use Rattle.slot_order.specs.Slots.{order_of}
use Rattle.verb_words.specs.declared.verbs.Answer.{Answer}
use Rattle.kv_find.specs.Readings.{HasRoom}
use Rattle.kv_find.specs.Verbs.{EndsWith, words_with_key}

-- the word 0 names no object
object_in-empty : (sizes : Sizes) → object_in sizes 0 ≡ None
unfolding object_in
object_in-empty sizes = rw unpacked-empty refl

candidate_in-some : (sizes : Sizes) (key : List ℕ) (word : ℕ) (object : Object) → candidate_in sizes key word ≡ Some object → (word == 0) ≡ false
candidate_in-some sizes key zero object named = let bad = sym (object_in-empty sizes) ∙ candidate_in-object sizes key 0 object named in absurd cc
candidate_in-some sizes key (suc n) object named = grind (arith, nat_tests)

kind_in-code : (kind : Kind) → kind_in (code_of kind) ≡ Some kind
kind_in-code Value = refl
kind_in-code Tombstone = refl

checked_meta-is : (meta : Meta) → IsMeta meta → checked_meta meta ≡ Some meta
checked_meta-is meta is =
    let test : is_meta meta ≡ true = both_true (both_true (le-leb _ _ is.key.0) (le-leb _ _ is.key.1)) (le-leb _ _ is.value) in
    rw test refl

-- a meta word says its meta
meta_in-word : (meta : Meta) → IsMeta meta → meta_in (word_of_meta meta) ≡ Some meta
unfolding meta_in
meta_in-word meta is =
    let fields : meta_fields (word_of_meta meta) meta.kind ≡ meta = meta_ext _ _ refl (key_len-word_of_meta meta is) (value_len-word_of_meta meta is) in
    ap (option_and_then (λ kind. checked_meta (meta_fields (word_of_meta meta) kind))) (ap kind_in (code-word_of_meta meta is) ∙ kind_in-code meta.kind)
    ∙ ap checked_meta fields
    ∙ checked_meta-is meta is

-- a search that tests the key of an object
abbrev tested : Viewed → List ℕ → List ℕ → ℕ → ℕ → Object → Phase → KeySearch
tested view key order place word object phase =
    record { view = view; key = key; order = order; place = place; phase = AtKey word (record { view = view; key = key; object = object; phase = phase }) }

-- the words of the key from a word on
parts : (view : Viewed) (key order : List ℕ) (place word : ℕ) (object : Object) (kind : Kind) (value_len i more : ℕ) → i + suc more ≡ words_for (length key)
    → EndsWith (tested view key order place word object (Part i kind value_len)) (map (word_from key) (range_with_len i (suc more))) (At (slot_at (tested view key order place word object Length)) word kind value_len)
parts view key order place word object kind value_len i zero count =
    let same : (word_from key i == word_from key i) ≡ true = eq-eqb (word_from key i) (word_from key i) refl in
    let last : (i + 1 == words_for (length key)) ≡ true = eq-eqb (i + 1) (words_for (length key)) count in
    rw (same, last) refl
parts view key order place word object kind value_len i (suc more) count =
    let same : (word_from key i == word_from key i) ≡ true = eq-eqb (word_from key i) (word_from key i) refl in
    let further : (i + 1 == words_for (length key)) ≡ false = grind (arith, nat_tests) in
    rw (same, further) (refl, parts view key order place word object kind value_len (i + 1) more (omega arith))

all_parts : (view : Viewed) (key order : List ℕ) (place word : ℕ) (object : Object) (kind : Kind) (value_len count : ℕ) → count ≡ words_for (length key) → 1 ≤ count
    → EndsWith (tested view key order place word object (Part 0 kind value_len)) (map (word_from key) (range_with_len 0 count)) (At (slot_at (tested view key order place word object Length)) word kind value_len)
all_parts view key order place word object kind value_len zero is some = absurd (omega arith)
all_parts view key order place word object kind value_len (suc more) is some = parts view key order place word object kind value_len 0 more (omega arith)

meta_for-is : (view : Viewed) (key : List ℕ) (object : Object) (meta : Meta) → IsMeta meta → meta.key_len ≡ length key → words_of meta.key_len meta.value_len ≤ room_of object.class
    → meta_for (key_test_of view key object) (word_of_meta meta) ≡ Some meta
meta_for-is view key object meta is len room =
    let fit : fits (length key) object.class meta ≡ true = both_true (eq-eqb meta.key_len (length key) len) (le-leb _ _ room) in
    rw (meta_in-word meta is, fit) refl

-- the meta word goes on to the key's words
meta_step : (view : Viewed) (key order : List ℕ) (place word : ℕ) (object : Object) (meta : Meta) (count : ℕ) (told : Found) → 1 ≤ count → meta_for (key_test_of view key object) (word_of_meta meta) ≡ Some meta
    → EndsWith (tested view key order place word object (Part 0 meta.kind meta.value_len)) (map (word_from key) (range_with_len 0 count)) told
    → EndsWith (tested view key order place word object Length) (word_of_meta meta ∷ map (word_from key) (range_with_len 0 count)) told
meta_step view key order place word object meta zero told some says rest = absurd (omega arith)
meta_step view key order place word object meta (suc more) told some says rest = rw says (refl, rest)

pub first_slot-found : (view : Viewed) (key : List ℕ) (from word : ℕ) (object : Object) (meta : Meta) → candidate_in view.shape key word ≡ Some object → IsMeta meta → meta.key_len ≡ length key
    → words_of meta.key_len meta.value_len ≤ room_of object.class
    → EndsWith (key_search_of view key from) (words_with_key key word meta) (At (slot_at (key_search_of view key from)) word meta.kind meta.value_len)
first_slot-found view key from word object meta named is len room =
    let order = order_of key view.shape.groups in
    let count = words_for (length key) in
    let some : 1 ≤ count = omega (arith, is.key.0) in
    let rest = all_parts view key order from word object meta.kind meta.value_len count refl some in
    rw (candidate_in-some view.shape key word object named, named) (refl, meta_step view key order from word object meta count _ some (meta_for-is view key object meta is len room) rest)

pub words_with_key-count : (key : List ℕ) (word : ℕ) (meta : Meta) → length (words_with_key key word meta) ≡ 2 + words_for (length key)
words_with_key-count key word meta = omega (arith, length-padded_words key)

pub found-room : (search : KeySearch) (answer : Answer) (slot word : ℕ) (kind : Kind) (value_len : ℕ) → IsKeySearch search.view search.key search → (turn search answer).told ≡ At slot word kind value_len
    → HasRoom search.view.shape word (length search.key) value_len
found-room search answer slot word kind value_len is told =
    let found = turn-found search.view search.key search answer slot word value_len kind is told in
    record { object = found.object; named = found.named; room = found.room }
