-- A search that tells that the key is nowhere has passed over each slot of its order, from its place on.
use Rattle.std.proofs.Common.{◌≡◌, ◌≢◌, ℕ, ◌+◌, ◌<◌, ◌≤◌, ◌==◌, ◌⊎◌, inl, inr, Bool, true, false, List, [], ◌∷◌, ◌++◌, length, Option, Some, None, refl, sym, ap, subst, ◌∙◌, arith}
use Rattle.std.specs.Prelude.{nat_lt}
use Rattle.std.proofs.lemmas.Bool.{cases_lt}
use Rattle.std.proofs.lemmas.Bool.Decides.{eqb_tells, nat_tests}
use Rattle.kv_find.specs.Passed.{PassesOver, WasPassed, WasRead, after_all}
use Rattle.machine.specs.declared.key_search.Found.{Found}
use Rattle.machine.specs.declared.key_search.Found.TheVariants.{Going, Nowhere}
use Rattle.machine.specs.declared.key_test.Tested.{Tested}
use Rattle.machine.specs.declared.key_test.Tested.TheVariants as tested
use Rattle.machine.specs.KeySearch.{AtKey, AtSlot, KeySearch, Phase, on_test, passed, tests, turn, turn_at}
use Rattle.machine.specs.KeyTest as test
use Rattle.machine.specs.KeyTest.{KeyTest}
use Rattle.machine.specs.ObjectNames.{Object, candidate_in}
use Rattle.machine.specs.Turn.{Turn}
use Rattle.verb_words.specs.declared.verbs.Answer.{Answer}
use Rattle.verb_words.specs.declared.verbs.Answer.TheVariants.{Word, Done, Lost}

-- ---- one turn

-- the place stays, or the slot at it was passed over; where the key is nowhere, it was the last slot that was passed over
pub record Moves (Passed : Type 0) (search : KeySearch) (turned : Turn KeySearch Found) : Type 0 where
  pub order : turned.state.order ≡ search.order
  pub place : (turned.state.place ≡ search.place) ⊎ ((turned.state.place ≡ search.place + 1) × Passed)
  pub nowhere : turned.told ≡ Nowhere → (length search.order ≤ search.place + 1) × Passed

-- nothing is passed over
stays : (Passed : Type 0) (search next : KeySearch) (told : Found) → next.order ≡ search.order → next.place ≡ search.place → told ≢ Nowhere
    → Moves Passed search (record { state = next; told = told })
stays Passed search next told order place other = record { order = order; place = inl place; nowhere = λ is. absurd (other is) }

pub passed-moves : (Passed : Type 0) (search : KeySearch) → Passed → Moves Passed search (passed search)
passed-moves Passed search passes = by (nat_lt (search.place + 1) (length search.order)) refl
  where
    by : (t : Bool) → nat_lt (search.place + 1) (length search.order) ≡ t → Moves Passed search (passed search)
    by true more = rw more (record { order = refl; place = inr (refl, passes); nowhere = λ is. absurd cc })
    by false last = rw last (record { order = refl; place = inl refl; nowhere = λ is. (grind (arith, nat_tests), passes) })

tests-moves : (Passed : Type 0) (search : KeySearch) (found : ℕ) → (candidate_in search.view.shape search.key found ≡ None → Passed) → Moves Passed search (tests search found)
tests-moves Passed search found passes = by (candidate_in search.view.shape search.key found) refl
  where
    by : (object : Option Object) → candidate_in search.view.shape search.key found ≡ object → Moves Passed search (tests search found)
    by None none = rw none (passed-moves Passed search (passes none))
    by (Some object) some = rw some (stays Passed search _ Going refl refl (λ is. absurd cc))

on_test-moves : (Passed : Type 0) (search : KeySearch) (word : ℕ) (key_test : KeyTest) (told : Tested) → (told ≡ tested.Other → Passed) → Moves Passed search (on_test search word key_test told)
on_test-moves Passed search word key_test tested.Going passes = stays Passed search _ Going refl refl (λ is. absurd cc)
on_test-moves Passed search word key_test (tested.Same kind value_len) passes = stays Passed search _ _ refl refl (λ is. absurd cc)
on_test-moves Passed search word key_test tested.Other passes = passed-moves Passed search (passes refl)
on_test-moves Passed search word key_test (tested.Refused node) passes = stays Passed search _ _ refl refl (λ is. absurd cc)

turn_at-moves : (phase : Phase) (search : KeySearch) (answer : Answer) → search.phase ≡ phase → Moves (PassesOver search answer) search (turn_at phase search answer)
turn_at-moves AtSlot search (Word found) at = by (eqb_tells found 0)
  where
    by : (((found == 0) ≡ true) × (found ≡ 0)) ⊎ (((found == 0) ≡ false) × (found ≢ 0)) → Moves (PassesOver search (Word found)) search (turn_at AtSlot search (Word found))
    by (inl (empty, zero)) = rw empty (stays (PassesOver search (Word found)) search search _ refl refl (λ is. absurd cc))
    by (inr (other, some)) = rw other (tests-moves (PassesOver search (Word found)) search found (λ none. inl (found, refl, at, some, none)))
turn_at-moves AtSlot search Done at = stays (PassesOver search Done) search search Going refl refl (λ is. absurd cc)
turn_at-moves AtSlot search Lost at = stays (PassesOver search Lost) search search _ refl refl (λ is. absurd cc)
turn_at-moves (AtKey word key_test) search answer at =
    on_test-moves (PassesOver search answer) search word (test.turn key_test answer).state (test.turn key_test answer).told (λ other. inr (word, key_test, at, other))

pub turn-moves : (search : KeySearch) (answer : Answer) → Moves (PassesOver search answer) search (turn search answer)
turn-moves search answer = turn_at-moves search.phase search answer refl

-- ---- all answers of a search

-- what the first answer passes over
passed-first : (search : KeySearch) (answer : Answer) (answers : List Answer) (place : ℕ) → search.place ≡ place → PassesOver search answer → WasPassed search (answer ∷ answers) place
passed-first search answer answers place here passes = record { before = []; answer = answer; after = answers; split = refl; here = here; passes = passes }

-- what a later answer passes over
passed-later : (search : KeySearch) (answer : Answer) (answers : List Answer) (place : ℕ) → WasPassed (turn search answer).state answers place → WasPassed search (answer ∷ answers) place
passed-later search answer answers place was = record {
  before = answer ∷ was.before;
  answer = was.answer;
  after = was.after;
  split = ap (λ rest. answer ∷ rest) was.split;
  here = was.here;
  passes = was.passes;
}

-- where the key is nowhere, each slot from the place on was passed over
pub nowhere-passed : (start : KeySearch) (answers : List Answer) (answer : Answer) → (turn (after_all start answers) answer).told ≡ Nowhere
    → (place : ℕ) → start.place ≤ place → place < length start.order → WasPassed start (answers ++ answer ∷ []) place
nowhere-passed start [] answer told place from below =
    let last = (turn-moves start answer).nowhere told in
    passed-first start answer [] place (omega (arith, last.0)) last.1
nowhere-passed start (one ∷ answers) answer told place from below = by moves.place (nowhere-passed (turn start one).state answers answer told place)
  where
    next : KeySearch
    next = (turn start one).state

    moves : Moves (PassesOver start one) start (turn start one)
    moves = turn-moves start one

    Rest : Type 0
    Rest = next.place ≤ place → place < length next.order → WasPassed next (answers ++ answer ∷ []) place

    later : next.place ≤ place → Rest → WasPassed start (one ∷ answers ++ answer ∷ []) place
    later from_next rest = passed-later start one (answers ++ answer ∷ []) place (rest from_next (subst (λ order. place < length order) (sym moves.order) below))

    at : (place < start.place + 1) ⊎ (start.place + 1 ≤ place) → next.place ≡ start.place + 1 → PassesOver start one → Rest → WasPassed start (one ∷ answers ++ answer ∷ []) place
    at (inl here) more passes rest = passed-first start one (answers ++ answer ∷ []) place (omega (arith, here, from)) passes
    at (inr beyond) more passes rest = later (omega (arith, beyond, more)) rest

    by : (next.place ≡ start.place) ⊎ ((next.place ≡ start.place + 1) × PassesOver start one) → Rest → WasPassed start (one ∷ answers ++ answer ∷ []) place
    by (inl same) rest = later (omega (arith, same, from)) rest
    by (inr (more, passes)) rest = at (cases_lt place (start.place + 1)) more passes rest

-- ---- the words that are tested

-- the word was tested at the same place before
abbrev Since : KeySearch → KeySearch → ℕ → Type 0
Since before after word = (after.place ≡ before.place) × (key_test : KeyTest) × (before.phase ≡ AtKey word key_test)

passed-tests : (search : KeySearch) (word : ℕ) (key_test : KeyTest) → (passed search).state.phase ≡ AtKey word key_test → Since search (passed search).state word
passed-tests search word key_test = by (nat_lt (search.place + 1) (length search.order)) refl
  where
    by : (t : Bool) → nat_lt (search.place + 1) (length search.order) ≡ t → (passed search).state.phase ≡ AtKey word key_test → Since search (passed search).state word
    by true more = rw more (λ at. absurd cc)
    by false last = rw last (λ at. (refl, key_test, at))

tests-tests : (search : KeySearch) (found word : ℕ) (key_test : KeyTest) → (tests search found).state.phase ≡ AtKey word key_test
    → ((found ≡ word) × ((tests search found).state.place ≡ search.place)) ⊎ Since search (tests search found).state word
tests-tests search found word key_test = by (candidate_in search.view.shape search.key found) refl
  where
    by : (object : Option Object) → candidate_in search.view.shape search.key found ≡ object → (tests search found).state.phase ≡ AtKey word key_test
        → ((found ≡ word) × ((tests search found).state.place ≡ search.place)) ⊎ Since search (tests search found).state word
    by None none = rw none (λ at. inr (passed-tests search word key_test at))
    by (Some object) some = rw some (λ at. inl (cc, refl))

on_test-tests : (search : KeySearch) (was : ℕ) (before after : KeyTest) (told : Tested) (word : ℕ) (key_test : KeyTest) → search.phase ≡ AtKey was before
    → (on_test search was after told).state.phase ≡ AtKey word key_test → Since search (on_test search was after told).state word
on_test-tests search was before after tested.Going word key_test here at =
    let same : was ≡ word = cc in
    (refl, before, subst (λ w. search.phase ≡ AtKey w before) same here)
on_test-tests search was before after (tested.Same kind value_len) word key_test here at = (refl, key_test, at)
on_test-tests search was before after tested.Other word key_test here at = passed-tests search word key_test at
on_test-tests search was before after (tested.Refused node) word key_test here at = (refl, key_test, at)

-- the answer is this word, of the slot at the search's place, and the place stays
abbrev Reads : KeySearch → Answer → KeySearch → ℕ → Type 0
Reads before answer after word = (after.place ≡ before.place) × (answer ≡ Word word) × (before.phase ≡ AtSlot)

turn_at-tests : (phase : Phase) (search : KeySearch) (answer : Answer) (word : ℕ) (key_test : KeyTest) → search.phase ≡ phase → (turn_at phase search answer).state.phase ≡ AtKey word key_test
    → Reads search answer (turn_at phase search answer).state word ⊎ Since search (turn_at phase search answer).state word
turn_at-tests AtSlot search (Word found) word key_test here at = by (found == 0) refl at
  where
    read : ((found ≡ word) × ((tests search found).state.place ≡ search.place)) ⊎ Since search (tests search found).state word
        → Reads search (Word found) (tests search found).state word ⊎ Since search (tests search found).state word
    read (inl (same, place)) = inl (place, ap Word same, here)
    read (inr since) = inr since

    by : (t : Bool) → (found == 0) ≡ t → (turn_at AtSlot search (Word found)).state.phase ≡ AtKey word key_test
        → Reads search (Word found) (turn_at AtSlot search (Word found)).state word ⊎ Since search (turn_at AtSlot search (Word found)).state word
    by true empty = rw empty (λ tested. inr (refl, key_test, tested))
    by false other = rw other (λ tested. read (tests-tests search found word key_test tested))
turn_at-tests AtSlot search Done word key_test here at = inr (refl, key_test, at)
turn_at-tests AtSlot search Lost word key_test here at = inr (refl, key_test, at)
turn_at-tests (AtKey was before) search answer word key_test here at =
    inr (on_test-tests search was before (test.turn before answer).state (test.turn before answer).told word key_test here at)

read-first : (search : KeySearch) (answer : Answer) (answers : List Answer) (place word : ℕ) → search.place ≡ place → answer ≡ Word word → search.phase ≡ AtSlot
    → WasRead search (answer ∷ answers) place word
read-first search answer answers place word here is at = record { before = []; after = answers; split = ap (λ a. a ∷ answers) is; here = here; at_slot = at }

read-later : (search : KeySearch) (answer : Answer) (answers : List Answer) (place word : ℕ) → WasRead (turn search answer).state answers place word → WasRead search (answer ∷ answers) place word
read-later search answer answers place word was = record {
  before = answer ∷ was.before;
  after = was.after;
  split = ap (λ rest. answer ∷ rest) was.split;
  here = was.here;
  at_slot = was.at_slot;
}

-- a word that is tested was read in this search, or is tested since its start
after_all-tests : (search : KeySearch) (answers : List Answer) (word : ℕ) (key_test : KeyTest) → (after_all search answers).phase ≡ AtKey word key_test
    → WasRead search answers (after_all search answers).place word ⊎ Since search (after_all search answers) word
after_all-tests search [] word key_test at = inr (refl, key_test, at)
after_all-tests search (answer ∷ answers) word key_test at = by (after_all-tests (turn search answer).state answers word key_test at)
  where
    next : KeySearch
    next = (turn search answer).state

    last : KeySearch
    last = after_all next answers

    of_first : last.place ≡ next.place → Reads search answer next word ⊎ Since search next word → WasRead search (answer ∷ answers) last.place word ⊎ Since search last word
    of_first same (inl (place, is, here)) = inl (read-first search answer answers last.place word (sym (same ∙ place)) is here)
    of_first same (inr (place, before, since)) = inr (same ∙ place, before, since)

    by : WasRead next answers last.place word ⊎ Since next last word → WasRead search (answer ∷ answers) last.place word ⊎ Since search last word
    by (inl was) = inl (read-later search answer answers last.place word was)
    by (inr (same, before, here)) = of_first same (turn_at-tests search.phase search answer word before refl here)

-- where a search starts at a slot, a word that is tested was read of its slot
pub tested-read : (start : KeySearch) (answers : List Answer) (word : ℕ) (key_test : KeyTest) → start.phase ≡ AtSlot → (after_all start answers).phase ≡ AtKey word key_test
    → WasRead start answers (after_all start answers).place word
tested-read start answers word key_test first at = by (after_all-tests start answers word key_test at)
  where
    by : WasRead start answers (after_all start answers).place word ⊎ Since start (after_all start answers) word → WasRead start answers (after_all start answers).place word
    by (inl was) = was
    by (inr (same, before, here)) = let bad : AtSlot ≡ AtKey word before = sym first ∙ here in absurd cc
