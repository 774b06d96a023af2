-- The search for a key: the slots of its order are read one after the other, and the key of each object that has its
-- fingerprint is tested. The order of a key's slots is that of RACE hashing (ATC 2021) in outline.
use Rattle.std.specs.Prelude.{◌≡◌, ℕ, ◌+◌, ◌<◌, ◌≤◌, ◌==◌, Bool, true, false, nat_lt, if◌then◌else◌, List, length, slice_index, Some}
use Rattle.std.specs.Option.{option_map_or}
use Rattle.machine.specs.declared.key_search.Found.{Found}
use Rattle.machine.specs.declared.key_search.Found.TheVariants.{Going, Empty, At, Nowhere, Refused}
use Rattle.machine.specs.declared.key_test.Tested.{Tested}
use Rattle.machine.specs.declared.key_test.Tested.TheVariants as tested
use Rattle.machine.specs.EpochRead.{IsView}
use Rattle.machine.specs.KeyTest as test
use Rattle.machine.specs.KeyTest.{IsKeyTest, KeyTest, key_test_of}
use Rattle.machine.specs.ObjectNames.{candidate_in}
use Rattle.machine.specs.Places.{slot_primary}
use Rattle.machine.specs.Turn.{Turn}
use Rattle.region_view.specs.Placed.{Viewed}
use Rattle.slot_order.specs.Slots.{order_of}
use Rattle.verb_words.specs.declared.verbs.Answer.{Answer}
use Rattle.verb_words.specs.declared.verbs.Answer.TheVariants.{Word, Done, Lost}
use Rattle.verb_words.specs.declared.verbs.Verb.{Verb}
use Rattle.verb_words.specs.declared.verbs.Verb.TheVariants.{Read}
use Rattle.verb_words.specs.Verb.{place_of}

-- AtSlot: reads the slot at the present place of the order. AtKey: tests the key of the object that the slot's word names
pub data Phase : Type 0 where
  AtSlot : Phase
  AtKey : (word : ℕ) → KeyTest → Phase

pub record KeySearch : Type 0 where
  pub view : Viewed
  pub key : List ℕ
  pub order : List ℕ
  pub place : ℕ
  pub phase : Phase

-- a search from a place of the key's order on
abbrev pub key_search_of : Viewed → List ℕ → ℕ → KeySearch
key_search_of view key place =
    record { view = view; key = key; order = order_of key view.shape.groups; place = place; phase = AtSlot }

-- the slot at the present place
abbrev pub slot_at : KeySearch → ℕ
slot_at search = slice_index search.order search.place

-- whether a slot is read next, and not an object that it names
abbrev pub is_at_slot : Phase → Bool
is_at_slot AtSlot = true
is_at_slot (AtKey word key_test) = false

abbrev pub verb_at : Phase → KeySearch → Verb
verb_at AtSlot search = Read (slot_primary search.view (slot_at search))
verb_at (AtKey word key_test) search = test.next key_test

abbrev pub next : KeySearch → Verb
next search = verb_at search.phase search

abbrev pub goes : KeySearch → Turn KeySearch Found
goes search = record { state = search; told = Going }

abbrev pub tells : KeySearch → Found → Turn KeySearch Found
tells search told = record { state = search; told = told }

-- the slot is passed over
abbrev pub passed : KeySearch → Turn KeySearch Found
passed search =
    if nat_lt (search.place + 1) (length search.order)
    then goes (record search { place = search.place + 1; phase = AtSlot })
    else tells search Nowhere

abbrev pub tests : KeySearch → ℕ → Turn KeySearch Found
tests search found =
    option_map_or
    (λ object. goes (record search { phase = AtKey found (key_test_of search.view search.key object) }))
    (candidate_in search.view.shape search.key found)
    (passed search)

abbrev pub on_test : KeySearch → ℕ → KeyTest → Tested → Turn KeySearch Found
on_test search word key_test tested.Going = goes (record search { phase = AtKey word key_test })
on_test search word key_test (tested.Same kind value_len) = tells search (At (slot_at search) word kind value_len)
on_test search word key_test tested.Other = passed search
on_test search word key_test (tested.Refused node) = tells search (Refused node)

abbrev pub turn_at : Phase → KeySearch → Answer → Turn KeySearch Found
turn_at AtSlot search (Word found) = if found == 0 then tells search (Empty (slot_at search)) else tests search found
turn_at AtSlot search Done = goes search
turn_at AtSlot search Lost = tells search (Refused (place_of (next search)).node)
turn_at (AtKey word key_test) search answer =
    on_test search word (test.turn key_test answer).state (test.turn key_test answer).told

abbrev pub turn : KeySearch → Answer → Turn KeySearch Found
turn search answer = turn_at search.phase search answer

-- the object whose key is tested is the one that the slot's word names
abbrev pub IsAt : Phase → Viewed → List ℕ → Type 0
IsAt AtSlot view key = Unit {0}
IsAt (AtKey word key_test) view key = IsKeyTest view key key_test × (candidate_in view.shape key word ≡ Some key_test.object)

-- what holds of each search for a key under a view
pub record IsKeySearch (view : Viewed) (key : List ℕ) (search : KeySearch) : Type 0 where
  pub held : search.view ≡ view
  pub is_view : IsView search.view
  pub same : search.key ≡ key
  pub some : 1 ≤ length search.key
  pub order : search.order ≡ order_of search.key search.view.shape.groups
  pub place : search.place < length search.order
  pub phase : IsAt search.phase search.view search.key
