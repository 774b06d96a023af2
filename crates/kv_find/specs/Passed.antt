-- How a search passes the slots of its order over, told by the words that it reads.
use Rattle.std.specs.Prelude.{◌≡◌, ◌≢◌, ℕ, ◌⊎◌, List, [], ◌∷◌, ◌++◌, None}
use Rattle.machine.specs.declared.key_test.Tested.TheVariants as tested
use Rattle.machine.specs.KeySearch.{AtKey, AtSlot, KeySearch, turn}
use Rattle.machine.specs.KeyTest as test
use Rattle.machine.specs.KeyTest.{KeyTest}
use Rattle.machine.specs.ObjectNames.{candidate_in}
use Rattle.verb_words.specs.declared.verbs.Answer.{Answer}
use Rattle.verb_words.specs.declared.verbs.Answer.TheVariants.{Word}

-- the search after these answers
abbrev pub after_all : KeySearch → List Answer → KeySearch
after_all search [] = search
after_all search (answer ∷ answers) = after_all (turn search answer).state answers

-- the answer passes the slot at the search's place over: it is the slot's word, which is not empty and names no object with
-- the key's fingerprint, or with it the test of the object's key tells another key
abbrev pub PassesOver : KeySearch → Answer → Type 0
PassesOver search answer =
    ((found : ℕ) × (answer ≡ Word found) × (search.phase ≡ AtSlot) × (found ≢ 0)
    × (candidate_in search.view.shape search.key found ≡ None))
    ⊎ ((word : ℕ) × (key_test : KeyTest) × (search.phase ≡ AtKey word key_test)
    × ((test.turn key_test answer).told ≡ tested.Other))

-- one of these answers passes the slot at this place of the order over
pub record WasPassed (start : KeySearch) (answers : List Answer) (place : ℕ) : Type 0 where
  pub before : List Answer
  pub answer : Answer
  pub after : List Answer
  pub split : answers ≡ before ++ answer ∷ after
  pub here : (after_all start before).place ≡ place
  pub passes : PassesOver (after_all start before) answer

-- one of these answers is the word that was read of the slot at this place of the order
pub record WasRead (start : KeySearch) (answers : List Answer) (place word : ℕ) : Type 0 where
  pub before : List Answer
  pub after : List Answer
  pub split : answers ≡ before ++ Word word ∷ after
  pub here : (after_all start before).place ≡ place
  pub at_slot : (after_all start before).phase ≡ AtSlot
