-- A resolution stays one, and its verbs go to places of the pool.
use Rattle.std.proofs.Common.{◌≡◌, ℕ, ◌*◌, ◌<◌, ◌≤◌, ◌==◌, Bool, true, false, List, length, Option, Some, None, refl, subst, arith}
use Rattle.std.specs.Prelude.{nat_lt}
use Rattle.machine.specs.declared.key_test.Tested.{Tested}
use Rattle.machine.specs.declared.key_test.Tested.TheVariants as tested
use Rattle.machine.specs.EpochRead.{IsView}
use Rattle.machine.specs.KeyTest as test
use Rattle.machine.specs.KeyTest.{IsKeyTest, KeyTest}
use Rattle.machine.specs.ObjectNames.{IsObject, Object, candidate_in, object_in}
use Rattle.machine.specs.Places.{IsInPool}
use Rattle.machine.specs.Resolution.{AtExpected, AtKey, AtSlot, AtVersion, IsAt, IsResolution, Phase, Resolution, falls, next, on_expected, on_slot, on_test, on_version, resolution_of, tests, turn, turn_at, verb_at, walks_to}
use Rattle.machine.proofs.KeyTestLemmas as of_test
use Rattle.machine.proofs.KeyTestLemmas.{key_test_of-is, object_place-inside, room_of-eight}
use Rattle.machine.proofs.ObjectNamesLemmas.{candidate_in-object, object_in-is}
use Rattle.machine.proofs.PlacesLemmas.{slot_primary-inside}
use Rattle.region_view.specs.Placed.{Viewed}
use Rattle.verb_words.specs.declared.verbs.Answer.{Answer}
use Rattle.verb_words.specs.declared.verbs.Answer.TheVariants.{Word, Done, Lost}
use Rattle.verb_words.specs.Verb.{place_of}

pub resolution_of-is : (view : Viewed) (slot expect fresh version : ℕ) (key : List ℕ) → IsView view → 1 ≤ length key → slot < 24 * view.shape.groups
    → IsResolution view (resolution_of view slot expect fresh version key)
resolution_of-is view slot expect fresh version key is some below = record { held = refl; is_view = is; some = some; slot = below; phase = tt }

-- the same resolution at another phase
at_phase : (view : Viewed) (resolution : Resolution) (phase : Phase) → IsResolution view resolution → IsAt phase resolution.view resolution.key → IsResolution view (record resolution { phase = phase })
at_phase view resolution phase is at = record { held = is.held; is_view = is.is_view; some = is.some; slot = is.slot; phase = at }

walks_to-is : (view : Viewed) (resolution : Resolution) (word : ℕ) (before : Option ℕ) → IsResolution view resolution → IsResolution view (walks_to resolution word before).state
walks_to-is view resolution word before is = by (object_in resolution.view.shape word) refl
  where
    by : (object : Option Object) → object_in resolution.view.shape word ≡ object → IsResolution view (walks_to resolution word before).state
    by None none = rw none is
    by (Some object) some = rw some (at_phase view resolution (AtVersion object before) is (object_in-is resolution.view.shape word object some))

tests-is : (view : Viewed) (resolution : Resolution) (word : ℕ) → IsResolution view resolution → IsResolution view (tests resolution word).state
tests-is view resolution word is = by (candidate_in resolution.view.shape resolution.key word) refl
  where
    by : (object : Option Object) → candidate_in resolution.view.shape resolution.key word ≡ object → IsResolution view (tests resolution word).state
    by None none = rw none is
    by (Some object) some = rw some (at_phase view resolution _ is
        (key_test_of-is resolution.view resolution.key object is.is_view is.some (object_in-is _ word object (candidate_in-object _ resolution.key word object some))))

on_slot-is : (view : Viewed) (resolution : Resolution) (found : ℕ) → IsResolution view resolution → IsResolution view (on_slot resolution found).state
on_slot-is view resolution found is = by (found == resolution.expect) refl (found == resolution.fresh) refl (resolution.expect == 0) refl
  where
    by : (t : Bool) → (found == resolution.expect) ≡ t → (u : Bool) → (found == resolution.fresh) ≡ u → (v : Bool) → (resolution.expect == 0) ≡ v → IsResolution view (on_slot resolution found).state
    by true same u fresh v empty = rw same is
    by false other true fresh v empty = rw (other, fresh) is
    by false other false changed true empty = rw (other, changed, empty) (tests-is view resolution found is)
    by false other false changed false full = rw (other, changed, full) (walks_to-is view resolution found None is)

on_test-is : (view : Viewed) (resolution : Resolution) (key_test : KeyTest) (told : Tested) → IsResolution view resolution → IsKeyTest resolution.view resolution.key key_test
    → IsResolution view (on_test resolution key_test told).state
on_test-is view resolution key_test tested.Going is at = at_phase view resolution (AtKey key_test) is at
on_test-is view resolution key_test (tested.Same kind value_len) is at =
    let P : Viewed → Type 0 = λ v. IsObject v.shape key_test.object in
    at_phase view resolution (AtVersion key_test.object None) is (subst P at.held at.object)
on_test-is view resolution key_test tested.Other is at = is
on_test-is view resolution key_test (tested.Refused node) is at = is

on_version-is : (view : Viewed) (resolution : Resolution) (object : Object) (before : Option ℕ) (found : ℕ) → IsResolution view resolution → IsObject resolution.view.shape object
    → IsResolution view (on_version resolution object before found).state
on_version-is view resolution object before found is named = by (falls before found) refl (nat_lt resolution.version found) refl
  where
    by : (t : Bool) → falls before found ≡ t → (u : Bool) → nat_lt resolution.version found ≡ u → IsResolution view (on_version resolution object before found).state
    by true down true above = rw (down, above) (at_phase view resolution (AtExpected object found) is named)
    by true down false below = rw (down, below) is
    by false up u above = rw up is

on_expected-is : (view : Viewed) (resolution : Resolution) (version found : ℕ) → IsResolution view resolution → IsResolution view (on_expected resolution version found).state
on_expected-is view resolution version found is = by (found == resolution.fresh) refl
  where
    by : (t : Bool) → (found == resolution.fresh) ≡ t → IsResolution view (on_expected resolution version found).state
    by true fresh = rw fresh is
    by false other = rw other (walks_to-is view resolution found (Some version) is)

at_of : (view : Viewed) (resolution : Resolution) (phase : Phase) → resolution.phase ≡ phase → IsResolution view resolution → IsAt phase resolution.view resolution.key
at_of view resolution phase at is = let P : Phase → Type 0 = λ p. IsAt p resolution.view resolution.key in subst P at is.phase

turn_at-is : (view : Viewed) (resolution : Resolution) (phase : Phase) (answer : Answer) → resolution.phase ≡ phase → IsResolution view resolution → IsResolution view (turn_at phase resolution answer).state
turn_at-is view resolution (AtKey key_test) answer at is =
    on_test-is view resolution (test.turn key_test answer).state (test.turn key_test answer).told is
    (of_test.turn-is resolution.view resolution.key key_test answer (at_of view resolution (AtKey key_test) at is))
turn_at-is view resolution AtSlot (Word found) at is = on_slot-is view resolution found is
turn_at-is view resolution (AtVersion object before) (Word found) at is = on_version-is view resolution object before found is (at_of view resolution (AtVersion object before) at is)
turn_at-is view resolution (AtExpected object version) (Word found) at is = on_expected-is view resolution version found is
turn_at-is view resolution AtSlot Done at is = is
turn_at-is view resolution (AtVersion object before) Done at is = is
turn_at-is view resolution (AtExpected object version) Done at is = is
turn_at-is view resolution AtSlot Lost at is = is
turn_at-is view resolution (AtVersion object before) Lost at is = is
turn_at-is view resolution (AtExpected object version) Lost at is = is

-- a resolution stays one, whatever is answered
pub turn-is : (view : Viewed) (resolution : Resolution) (answer : Answer) → IsResolution view resolution → IsResolution view (turn resolution answer).state
turn-is view resolution answer is = turn_at-is view resolution resolution.phase answer refl is

verb_at-inside : (view : Viewed) (resolution : Resolution) (phase : Phase) → resolution.phase ≡ phase → IsResolution view resolution → IsInPool resolution.view.shape (place_of (verb_at phase resolution))
verb_at-inside view resolution AtSlot at is = slot_primary-inside resolution.view resolution.slot is.is_view is.slot
verb_at-inside view resolution (AtKey key_test) at is = of_test.next-inside resolution.view resolution.key key_test (at_of view resolution (AtKey key_test) at is)
verb_at-inside view resolution (AtVersion object before) at is =
    let named = at_of view resolution (AtVersion object before) at is in
    object_place-inside resolution.view object 2 is.is_view named (omega (arith, room_of-eight object.class named.class))
verb_at-inside view resolution (AtExpected object version) at is =
    let named = at_of view resolution (AtExpected object version) at is in
    object_place-inside resolution.view object 3 is.is_view named (omega (arith, room_of-eight object.class named.class))

-- its verb goes to a place of the pool
pub next-inside : (view : Viewed) (resolution : Resolution) → IsResolution view resolution → IsInPool view.shape (place_of (next resolution))
next-inside view resolution is =
    let P : Viewed → Type 0 = λ v. IsInPool v.shape (place_of (next resolution)) in
    subst P is.held (verb_at-inside view resolution resolution.phase refl is)
