-- A search stays one, with what is at hand.
use Rattle.std.proofs.Common.{◌≡◌, ℕ, ◌+◌, ◌<◌, ◌≤◌, inl, inr, List, length, Option, Some, refl, sym, ap, ◌∙◌, subst, arith}
use Rattle.machine.specs.EpochRead.{IsView}
use Rattle.machine.specs.KeySearch.{AtKey, AtSlot, IsAt, KeySearch, Phase, slot_at}
use Rattle.machine.specs.KeyTest as test
use Rattle.machine.specs.KeyTest.{KeyTest, key_test_of}
use Rattle.machine.specs.ObjectNames.{IsObject, Object, candidate_in}
use Rattle.machine.specs.Places.{IsInPool, slot_primary}
use Rattle.machine.proofs.KeySearchLemmas.{key_search_of-is, slot_at-below}
use Rattle.machine.proofs.KeyTestLemmas as of_test
use Rattle.machine.proofs.KeyTestLemmas.{key_test_of-is, turn-object}
use Rattle.machine.proofs.ObjectNamesLemmas.{candidate_in-object, object_in-is}
use Rattle.machine.proofs.PlacesLemmas.{slot_primary-inside}
use Rattle.object_form.specs.Class.{IsKeyLength}
use Rattle.region_view.specs.Placed.{Viewed}
use Rattle.region_view.specs.Sizes.{Sizes}
use Rattle.slot_order.proofs.OrderLemmas.{length-order_of-cases}
use Rattle.slot_order.specs.Fnv.{finger_of}
use Rattle.slot_order.specs.Slots.{order_of}
use Rattle.verb_words.specs.declared.verbs.Answer.{Answer}
use Rattle.kv_find.specs.States.{IsHeld}

-- a search at another place and phase
abbrev pub with : KeySearch → ℕ → Phase → KeySearch
with search place phase = record search { place = place; phase = phase }

order_of-few : (key : List ℕ) (groups : ℕ) → length (order_of key groups) ≤ 32
order_of-few key groups = elim (length-order_of-cases key groups) [
  | inl one ↦ omega (arith, one)
  | inr more ↦ elim more [ inl two ↦ omega (arith, two) | inr three ↦ omega (arith, three) ]
]

pub begun-held : (view : Viewed) (key order : List ℕ) (from finger primary : ℕ) → IsView view → IsKeyLength (length key) → from < length (order_of key view.shape.groups) → order ≡ order_of key view.shape.groups
    → finger ≡ finger_of key → ((slot : ℕ) → slot_primary view slot ≡ record { node = primary; at = slot }) → IsHeld (record { view = view; key = key; order = order; place = from; phase = AtSlot }) finger primary
begun-held view key order from finger primary is len below are print slots =
    let P : List ℕ → Type 0 = λ l. IsHeld (record { view = view; key = key; order = l; place = from; phase = AtSlot }) finger primary in
    subst P (sym are) (record {
      state = key_search_of-is view key from is len.0 below;
      print = print;
      slots = slots;
      some = len.0;
      key = len.1;
      place = below;
      order = order_of-few key view.shape.groups;
    })

with-held : (search : KeySearch) (place : ℕ) (phase : Phase) (finger primary : ℕ) → IsHeld search finger primary → place < length search.order → IsAt phase search.view search.key
    → IsHeld (with search place phase) finger primary
with-held search place phase finger primary held below at = record {
  state = record { held = refl; is_view = held.state.is_view; same = refl; some = held.some; order = held.state.order; place = below; phase = at };
  print = held.print;
  slots = held.slots;
  some = held.some;
  key = held.key;
  place = below;
  order = held.order;
}

-- a slot is passed over
pub next_slot-held : (search : KeySearch) (finger primary : ℕ) → IsHeld search finger primary → search.place + 1 < length search.order → IsHeld (with search (search.place + 1) AtSlot) finger primary
next_slot-held search finger primary held below = with-held search (search.place + 1) AtSlot finger primary held below tt

-- what is at hand of the object that a slot's word names
pub candidate-is : (sizes : Sizes) (key : List ℕ) (word : ℕ) (object : Object) → candidate_in sizes key word ≡ Some object → IsObject sizes object
candidate-is sizes key word object named = object_in-is sizes word object (candidate_in-object sizes key word object named)

-- the key of the object that a slot's word names is tested
pub tested-held : (search : KeySearch) (word : ℕ) (object : Object) (finger primary : ℕ) → IsHeld search finger primary → candidate_in search.view.shape search.key word ≡ Some object
    → IsHeld (with search search.place (AtKey word (key_test_of search.view search.key object))) finger primary
tested-held search word object finger primary held named =
    with-held search search.place _ finger primary held held.place
    (key_test_of-is search.view search.key object held.state.is_view held.some (candidate-is search.view.shape search.key word object named), named)

-- a test goes on
pub on_test-held : (search : KeySearch) (word : ℕ) (key_test : KeyTest) (answer : Answer) (finger primary : ℕ) → IsHeld search finger primary → search.phase ≡ AtKey word key_test
    → IsHeld (with search search.place (AtKey word (test.turn key_test answer).state)) finger primary
on_test-held search word key_test answer finger primary held is =
    let P : Phase → Type 0 = λ p. IsAt p search.view search.key in
    let here : IsAt (AtKey word key_test) search.view search.key = subst P is held.state.phase in
    with-held search search.place _ finger primary held held.place
    (of_test.turn-is search.view search.key key_test answer here.0, here.1 ∙ ap Some (sym (turn-object key_test answer)))

-- the slot that is read is in the pool
pub held_slot-inside : (search now : KeySearch) (finger primary slot : ℕ) → IsHeld search finger primary → search ≡ now → slot ≡ slot_at now → IsInPool now.view.shape (record { node = primary; at = slot })
held_slot-inside search now finger primary slot held is same =
    let P : KeySearch → Type 0 = λ s. slot ≡ slot_at s → IsInPool s.view.shape (record { node = primary; at = slot }) in
    let inside : P search = λ at.
    let below = slot_at-below search.view search.key search held.state in
    subst (IsInPool search.view.shape) (held.slots slot) (slot_primary-inside search.view slot held.state.is_view (omega (arith, at))) in
    subst P is inside same

-- the object that was found in a word is one of the pool
pub candidate-held : (search now : KeySearch) (word : ℕ) (result : Option Object) (object inside : Object) → search ≡ now → result ≡ candidate_in now.view.shape now.key word → result ≡ Some object → inside ≡ object
    → IsObject search.view.shape inside
candidate-held search now word result object inside is found some same =
    let named : candidate_in search.view.shape search.key word ≡ Some object = ap (λ (s : KeySearch). candidate_in s.view.shape s.key word) is ∙ sym found ∙ some in
    subst (IsObject search.view.shape) (sym same) (candidate-is search.view.shape search.key word object named)

-- the test that begins anew is one of the object that was found in a word
pub begun_test-held : (search now : KeySearch) (word : ℕ) (result : Option Object) (object inside : Object) (finger primary : ℕ) (begun : KeyTest) → IsHeld search finger primary → search ≡ now
    → result ≡ candidate_in now.view.shape now.key word → result ≡ Some object → inside ≡ object → begun ≡ key_test_of search.view search.key inside
    → IsHeld (record { view = begun.view; key = begun.key; order = search.order; place = search.place; phase = AtKey word begun }) finger primary
begun_test-held search now word result object inside finger primary begun held is found some same begins =
    let named : candidate_in search.view.shape search.key word ≡ Some inside =
    ap (λ (s : KeySearch). candidate_in s.view.shape s.key word) is ∙ sym found ∙ some ∙ ap Some (sym same) in
    let P : KeyTest → Type 0 = λ t. IsHeld (record { view = t.view; key = t.key; order = search.order; place = search.place; phase = AtKey word t }) finger primary in
    subst P (sym begins) (tested-held search word inside finger primary held named)
