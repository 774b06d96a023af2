-- The slot that a search for a key tells is one of the index.
use Rattle.std.proofs.Common.{◌≡◌, ℕ, ◌+◌, ◌*◌, ◌<◌, ◌==◌, List, Bool, true, false, length, Option, Some, None, refl, subst}
use Rattle.std.specs.Prelude.{nat_lt}
use Rattle.machine.specs.declared.key_search.Found.{Found}
use Rattle.machine.specs.declared.key_search.Found.TheVariants.{Going, Empty, At, Nowhere, Refused}
use Rattle.machine.specs.declared.key_test.Tested.{Tested}
use Rattle.machine.specs.declared.key_test.Tested.TheVariants as tested
use Rattle.machine.specs.KeySearch.{IsKeySearch, KeySearch, Phase, AtSlot, AtKey, on_test, passed, slot_at, tests, turn, turn_at}
use Rattle.machine.specs.KeyTest as test
use Rattle.machine.specs.KeyTest.{KeyTest}
use Rattle.machine.specs.ObjectNames.{Object, candidate_in}
use Rattle.machine.proofs.KeySearchLemmas.{slot_at-below}
use Rattle.region_view.specs.Placed.{Viewed}
use Rattle.verb_words.specs.declared.verbs.Answer.{Answer}
use Rattle.verb_words.specs.declared.verbs.Answer.TheVariants.{Word, Done, Lost}

-- a slot that is told is below a number
abbrev pub IsTold : ℕ → Found → Type 0
IsTold slots (Empty slot) = slot < slots
IsTold slots (At slot word kind value_len) = slot < slots
IsTold slots Going = Unit {0}
IsTold slots Nowhere = Unit {0}
IsTold slots (Refused node) = Unit {0}

passed-told : (search : KeySearch) (slots : ℕ) → IsTold slots (passed search).told
passed-told search slots = by (nat_lt (search.place + 1) (length search.order)) refl
  where
    by : (t : Bool) → nat_lt (search.place + 1) (length search.order) ≡ t → IsTold slots (passed search).told
    by true more = rw more tt
    by false last = rw last tt

tests-told : (search : KeySearch) (found slots : ℕ) → IsTold slots (tests search found).told
tests-told search found slots = by (candidate_in search.view.shape search.key found) refl
  where
    by : (object : Option Object) → candidate_in search.view.shape search.key found ≡ object → IsTold slots (tests search found).told
    by None none = rw none (passed-told search slots)
    by (Some object) some = rw some tt

on_test-told : (search : KeySearch) (word slots : ℕ) (key_test : KeyTest) (told : Tested) → slot_at search < slots → IsTold slots (on_test search word key_test told).told
on_test-told search word slots key_test tested.Going below = tt
on_test-told search word slots key_test (tested.Same kind value_len) below = below
on_test-told search word slots key_test tested.Other below = passed-told search slots
on_test-told search word slots key_test (tested.Refused node) below = tt

turn_at-told : (search : KeySearch) (phase : Phase) (answer : Answer) (slots : ℕ) → slot_at search < slots → IsTold slots (turn_at phase search answer).told
turn_at-told search AtSlot (Word found) slots below = by (found == 0) refl
  where
    by : (t : Bool) → (found == 0) ≡ t → IsTold slots (turn_at AtSlot search (Word found)).told
    by true empty = rw empty below
    by false other = rw other (tests-told search found slots)
turn_at-told search AtSlot Done slots below = tt
turn_at-told search AtSlot Lost slots below = tt
turn_at-told search (AtKey word key_test) answer slots below =
    on_test-told search word slots (test.turn key_test answer).state (test.turn key_test answer).told below

pub turn-told : (view : Viewed) (key : List ℕ) (search : KeySearch) (answer : Answer) → IsKeySearch view key search → IsTold (24 * view.shape.groups) (turn search answer).told
turn-told view key search answer is =
    let P : Viewed → Type 0 = λ v. IsTold (24 * v.shape.groups) (turn search answer).told in
    subst P is.held (turn_at-told search search.phase answer (24 * search.view.shape.groups) (slot_at-below view key search is))
