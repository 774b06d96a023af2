-- A search for a key stays one, and its verbs go to places of the pool.
use Rattle.std.proofs.Common.{◌≡◌, ℕ, ◌+◌, ◌*◌, ◌<◌, ◌≤◌, ◌==◌, inl, inr, Bool, true, false, List, length, Option, Some, None, refl, sym, ap, subst, ◌∙◌, arith}
use Rattle.std.specs.Prelude.{nat_lt, slice_index}
use Rattle.std.proofs.lemmas.Bool.Decides.{nat_tests}
use Rattle.machine.specs.declared.key_search.Found.TheVariants.{Going, Empty, At, Nowhere}
use Rattle.machine.specs.declared.key_test.Tested.{Tested}
use Rattle.machine.specs.declared.key_test.Tested.TheVariants as tested
use Rattle.machine.specs.EpochRead.{IsView}
use Rattle.machine.specs.KeySearch.{AtKey, AtSlot, IsAt, IsKeySearch, KeySearch, Phase, key_search_of, next, on_test, passed, slot_at, tests, turn, turn_at, verb_at}
use Rattle.machine.specs.KeyTest as test
use Rattle.machine.specs.KeyTest.{IsKeyTest, KeyTest}
use Rattle.machine.specs.ObjectNames.{Object, candidate_in, object_in}
use Rattle.machine.specs.Places.{IsInPool}
use Rattle.machine.proofs.KeyTestLemmas as of_test
use Rattle.machine.proofs.KeyTestLemmas.{key_test_of-is, turn-object, turn-room}
use Rattle.machine.proofs.ObjectNamesLemmas.{candidate_in-object, object_in-is}
use Rattle.machine.proofs.PlacesLemmas.{slot_primary-inside}
use Rattle.object_form.specs.declared.metas.Kind.{Kind}
use Rattle.object_form.specs.Class.{room_of, words_of}
use Rattle.region_view.specs.Placed.{Viewed}
use Rattle.slot_order.proofs.OrderLemmas.{length-order_of-cases, order_of-below}
use Rattle.slot_order.specs.Slots.{order_of}
use Rattle.verb_words.specs.declared.verbs.Answer.{Answer}
use Rattle.verb_words.specs.declared.verbs.Answer.TheVariants.{Word, Done, Lost}
use Rattle.verb_words.specs.Verb.{place_of}

-- each key has a slot
pub order_of-some : (key : List ℕ) (groups : ℕ) → 0 < length (order_of key groups)
order_of-some key groups = elim (length-order_of-cases key groups) [
  | inl one ↦ omega (arith, one)
  | inr more ↦ elim more [ inl two ↦ omega (arith, two) | inr three ↦ omega (arith, three) ]
]

pub key_search_of-is : (view : Viewed) (key : List ℕ) (place : ℕ) → IsView view → 1 ≤ length key → place < length (order_of key view.shape.groups) → IsKeySearch view key (key_search_of view key place)
key_search_of-is view key place is some below = record { held = refl; is_view = is; same = refl; some = some; order = refl; place = below; phase = tt }

-- each place of a key's order is a slot of the index
pub slot_at-below : (view : Viewed) (key : List ℕ) (search : KeySearch) → IsKeySearch view key search → slot_at search < 24 * search.view.shape.groups
slot_at-below view key search is =
    let P : List ℕ → Type 0 = λ order. (place : ℕ) → place < length order → slice_index order place < 24 * search.view.shape.groups in
    let below : P (order_of search.key search.view.shape.groups) = λ place under. order_of-below search.key search.view.shape.groups (omega (arith, is.is_view.limits.groups)) place 0 under in
    subst P (sym is.order) below search.place is.place

-- the search at another phase of the same place
at_phase : (view : Viewed) (key : List ℕ) (search : KeySearch) (phase : Phase) → IsKeySearch view key search → IsAt phase search.view search.key → IsKeySearch view key (record search { phase = phase })
at_phase view key search phase is at = record { held = is.held; is_view = is.is_view; same = is.same; some = is.some; order = is.order; place = is.place; phase = at }

-- a slot is passed over
pub passed-is : (view : Viewed) (key : List ℕ) (search : KeySearch) → IsKeySearch view key search → IsKeySearch view key (passed search).state
passed-is view key search is = by (nat_lt (search.place + 1) (length search.order)) refl
  where
    by : (t : Bool) → nat_lt (search.place + 1) (length search.order) ≡ t → IsKeySearch view key (passed search).state
    by true more = rw more (record { held = is.held; is_view = is.is_view; same = is.same; some = is.some; order = is.order; place = grind (arith, nat_tests); phase = tt })
    by false last = rw last is

tests-is : (view : Viewed) (key : List ℕ) (search : KeySearch) (found : ℕ) → IsKeySearch view key search → IsKeySearch view key (tests search found).state
tests-is view key search found is = by (candidate_in search.view.shape search.key found) refl
  where
    by : (object : Option Object) → candidate_in search.view.shape search.key found ≡ object → IsKeySearch view key (tests search found).state
    by None none = rw none (passed-is view key search is)
    by (Some object) some = rw some (at_phase view key search _ is
        (key_test_of-is search.view search.key object is.is_view is.some (object_in-is _ found object (candidate_in-object _ search.key found object some)), some))

on_test-is : (view : Viewed) (key : List ℕ) (search : KeySearch) (word : ℕ) (key_test : KeyTest) (told : Tested) → IsKeySearch view key search
    → IsAt (AtKey word key_test) search.view search.key → IsKeySearch view key (on_test search word key_test told).state
on_test-is view key search word key_test tested.Going is at = at_phase view key search (AtKey word key_test) is at
on_test-is view key search word key_test (tested.Same kind value_len) is at = is
on_test-is view key search word key_test tested.Other is at = passed-is view key search is
on_test-is view key search word key_test (tested.Refused node) is at = is

turn_at-is : (view : Viewed) (key : List ℕ) (search : KeySearch) (phase : Phase) (answer : Answer) → search.phase ≡ phase → IsKeySearch view key search → IsKeySearch view key (turn_at phase search answer).state
turn_at-is view key search AtSlot (Word found) at is = by (found == 0) refl
  where
    by : (t : Bool) → (found == 0) ≡ t → IsKeySearch view key (turn_at AtSlot search (Word found)).state
    by true empty = rw empty is
    by false other = rw other (tests-is view key search found is)
turn_at-is view key search AtSlot Done at is = is
turn_at-is view key search AtSlot Lost at is = is
turn_at-is view key search (AtKey word key_test) answer at is =
    let P : Phase → Type 0 = λ p. IsAt p search.view search.key in
    let here : IsAt (AtKey word key_test) search.view search.key = subst P at is.phase in
    on_test-is view key search word (test.turn key_test answer).state (test.turn key_test answer).told is
    (of_test.turn-is search.view search.key key_test answer here.0, here.1 ∙ ap Some (sym (turn-object key_test answer)))

-- the place of a search is one of the key's order
pub place-below : (view : Viewed) (key : List ℕ) (search : KeySearch) → IsKeySearch view key search → search.place < length (order_of key view.shape.groups)
place-below view key search is =
    let P : List ℕ → Type 0 = λ order. search.place < length order in
    let Q : List ℕ → Type 0 = λ k. search.place < length (order_of k search.view.shape.groups) in
    let R : Viewed → Type 0 = λ v. search.place < length (order_of key v.shape.groups) in
    subst R is.held (subst Q is.same (subst P is.order is.place))

-- a search stays one, whatever is answered
pub turn-is : (view : Viewed) (key : List ℕ) (search : KeySearch) (answer : Answer) → IsKeySearch view key search → IsKeySearch view key (turn search answer).state
turn-is view key search answer is = turn_at-is view key search search.phase answer refl is

-- what is told of a slot that has the key
pub record IsFoundAt (view : Viewed) (key : List ℕ) (word value_len : ℕ) : Type 0 where
  pub object : Object
  pub named : object_in view.shape word ≡ Some object
  pub room : words_of (length key) value_len ≤ room_of object.class

-- a slot that is passed over tells nothing of an object
pub passed-never : (search : KeySearch) (slot word value_len : ℕ) (kind : Kind) → (passed search).told ≡ At slot word kind value_len → ⊥
passed-never search slot word value_len kind tells = by (nat_lt (search.place + 1) (length search.order)) refl
  where
    by : (t : Bool) → nat_lt (search.place + 1) (length search.order) ≡ t → ⊥
    by true more = let bad : Going ≡ At slot word kind value_len = sym (rw more refl) ∙ tells in absurd cc
    by false last = let bad : Nowhere ≡ At slot word kind value_len = sym (rw last refl) ∙ tells in absurd cc

tests-never : (search : KeySearch) (found slot word value_len : ℕ) (kind : Kind) → (tests search found).told ≡ At slot word kind value_len → ⊥
tests-never search found slot word value_len kind tells = by (candidate_in search.view.shape search.key found) refl
  where
    by : (object : Option Object) → candidate_in search.view.shape search.key found ≡ object → ⊥
    by None none = passed-never search slot word value_len kind (sym (rw none refl) ∙ tells)
    by (Some object) some = let bad : Going ≡ At slot word kind value_len = sym (rw some refl) ∙ tells in absurd cc

on_test-found : (view : Viewed) (key : List ℕ) (search : KeySearch) (found : ℕ) (before : KeyTest) (answer : Answer) (slot word value_len : ℕ) (kind : Kind) (told : Tested)
    → IsKeySearch view key search → IsAt (AtKey found before) search.view search.key → (test.turn before answer).told ≡ told
    → (on_test search found (test.turn before answer).state told).told ≡ At slot word kind value_len → IsFoundAt view key word value_len
on_test-found view key search found before answer slot word value_len kind tested.Going is at was tells = absurd cc
on_test-found view key search found before answer slot word value_len kind tested.Other is at was tells = absurd (passed-never search slot word value_len kind tells)
on_test-found view key search found before answer slot word value_len kind (tested.Refused node) is at was tells = absurd cc
on_test-found view key search found before answer slot word value_len kind (tested.Same kind' len) is at was tells =
    let same_word : found ≡ word = cc in
    let same_len : len ≡ value_len = cc in
    let named : object_in search.view.shape found ≡ Some before.object = candidate_in-object search.view.shape search.key found before.object at.1 in
    let room : words_of (length before.key) len ≤ room_of before.object.class = turn-room search.view search.key before answer kind' len at.0 was in
    let P : List ℕ → Type 0 = λ k. words_of (length k) len ≤ room_of before.object.class in
    let Q : ℕ → Type 0 = λ n. words_of (length key) n ≤ room_of before.object.class in
    let R : Viewed → Type 0 = λ v. object_in v.shape found ≡ Some before.object in
    let S : ℕ → Type 0 = λ w. object_in view.shape w ≡ Some before.object in
    record {
      object = before.object;
      named = subst S same_word (subst R is.held named);
      room = subst Q same_len (subst P (at.0.same ∙ is.same) room);
    }

-- where a slot with the key is told, its word names an object with room for the key and for a value of the length
pub turn-found : (view : Viewed) (key : List ℕ) (search : KeySearch) (answer : Answer) (slot word value_len : ℕ) (kind : Kind) → IsKeySearch view key search
    → (turn search answer).told ≡ At slot word kind value_len → IsFoundAt view key word value_len
turn-found view key search answer slot word value_len kind is tells = at search.phase refl answer tells
  where
    at : (phase : Phase) → search.phase ≡ phase → (answer : Answer) → (turn_at phase search answer).told ≡ At slot word kind value_len → IsFoundAt view key word value_len
    at AtSlot here (Word found) says = by (found == 0) refl
      where
        by : (t : Bool) → (found == 0) ≡ t → IsFoundAt view key word value_len
        by true empty = let bad : Empty (slot_at search) ≡ At slot word kind value_len = sym (rw empty refl) ∙ says in absurd cc
        by false other = absurd (tests-never search found slot word value_len kind (sym (rw other refl) ∙ says))
    at AtSlot here Done says = absurd cc
    at AtSlot here Lost says = absurd cc
    at (AtKey found before) here answer says =
        let P : Phase → Type 0 = λ p. IsAt p search.view search.key in
        on_test-found view key search found before answer slot word value_len kind (test.turn before answer).told is (subst P here is.phase) refl says

verb_at-inside : (view : Viewed) (key : List ℕ) (search : KeySearch) (phase : Phase) → search.phase ≡ phase → IsKeySearch view key search → IsInPool search.view.shape (place_of (verb_at phase search))
verb_at-inside view key search AtSlot at is = slot_primary-inside search.view (slot_at search) is.is_view (slot_at-below view key search is)
verb_at-inside view key search (AtKey word key_test) at is =
    let P : Phase → Type 0 = λ p. IsAt p search.view search.key in
    let here : IsAt (AtKey word key_test) search.view search.key = subst P at is.phase in
    of_test.next-inside search.view search.key key_test here.0

-- its verb goes to a place of the pool
pub next-inside : (view : Viewed) (key : List ℕ) (search : KeySearch) → IsKeySearch view key search → IsInPool view.shape (place_of (next search))
next-inside view key search is =
    let P : Viewed → Type 0 = λ v. IsInPool v.shape (place_of (next search)) in
    subst P is.held (verb_at-inside view key search search.phase refl is)
