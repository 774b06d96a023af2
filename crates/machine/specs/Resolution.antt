-- How an interrupted slot write is resolved: the slot is read, and where it has another word of the key, its versions are
-- walked back to the one that the write was for.
use Rattle.std.specs.Prelude.{◌≡◌, ℕ, ◌*◌, ◌<◌, ◌≤◌, length, Bool, true, ◌==◌, nat_lt, if◌then◌else◌, List, Option, Some, None}
use Rattle.std.specs.Option.{option_map_or}
use Rattle.machine.specs.declared.key_test.Tested.{Tested}
use Rattle.machine.specs.declared.key_test.Tested.TheVariants as tested
use Rattle.machine.specs.declared.resolution.Resolved.{Resolved}
use Rattle.machine.specs.declared.resolution.Resolved.TheVariants.{Going, Still, Won, Beaten, OtherKey, Refused}
use Rattle.machine.specs.EpochRead.{IsView}
use Rattle.machine.specs.KeyTest as test
use Rattle.machine.specs.KeyTest.{IsKeyTest, KeyTest, key_test_of}
use Rattle.machine.specs.ObjectNames.{IsObject, Object, candidate_in, object_in}
use Rattle.machine.specs.Places.{object_word, primary_place, slot_primary}
use Rattle.machine.specs.Turn.{Turn}
use Rattle.region_view.specs.Placed.{Viewed}
use Rattle.verb_words.specs.declared.verbs.Answer.{Answer}
use Rattle.verb_words.specs.declared.verbs.Answer.TheVariants.{Word, Done, Lost}
use Rattle.verb_words.specs.declared.verbs.Verb.{Verb}
use Rattle.verb_words.specs.declared.verbs.Verb.TheVariants.{Read}
use Rattle.verb_words.specs.Verb.{place_of}

-- AtSlot: reads the slot. AtKey: tests the key of an object that stands in a slot which was to be empty. AtVersion: reads
-- an object's version, which has to be below the one read before it in this walk. AtExpected: reads the word that the
-- object of this version replaced
pub data Phase : Type 0 where
  AtSlot : Phase
  AtKey : KeyTest → Phase
  AtVersion : Object → (before : Option ℕ) → Phase
  AtExpected : Object → (version : ℕ) → Phase

pub record Resolution : Type 0 where
  pub view : Viewed
  pub slot : ℕ
  pub expect : ℕ
  pub fresh : ℕ
  pub version : ℕ
  pub key : List ℕ
  pub phase : Phase

abbrev pub resolution_of : Viewed → ℕ → ℕ → ℕ → ℕ → List ℕ → Resolution
resolution_of view slot expect fresh version key =
    record { view = view; slot = slot; expect = expect; fresh = fresh; version = version; key = key; phase = AtSlot }

-- the walk back alone, from an object that the slot is known to name
abbrev pub version_walk_of : Viewed → ℕ → ℕ → ℕ → ℕ → List ℕ → Object → Resolution
version_walk_of view slot expect fresh version key object =
    record (resolution_of view slot expect fresh version key) { phase = AtVersion object None }

abbrev pub verb_at : Phase → Resolution → Verb
verb_at AtSlot resolution = Read (slot_primary resolution.view resolution.slot)
verb_at (AtKey key_test) resolution = test.next key_test
verb_at (AtVersion object before) resolution = Read (primary_place resolution.view (object_word object.pointer 2))
verb_at (AtExpected object version) resolution = Read (primary_place resolution.view (object_word object.pointer 3))

abbrev pub next : Resolution → Verb
next resolution = verb_at resolution.phase resolution

abbrev pub goes_to : Resolution → Phase → Turn Resolution Resolved
goes_to resolution phase = record { state = record resolution { phase = phase }; told = Going }

abbrev pub tells : Resolution → Resolved → Turn Resolution Resolved
tells resolution told = record { state = resolution; told = told }

-- the walk goes to the object that a word names
abbrev pub walks_to : Resolution → ℕ → Option ℕ → Turn Resolution Resolved
walks_to resolution word before =
    option_map_or (λ object. goes_to resolution (AtVersion object before)) (object_in resolution.view.shape word) (tells resolution Beaten)

-- the slot was to be empty, and has a word: of the same key or of another
abbrev pub tests : Resolution → ℕ → Turn Resolution Resolved
tests resolution word =
    option_map_or
    (λ object. goes_to resolution (AtKey (key_test_of resolution.view resolution.key object)))
    (candidate_in resolution.view.shape resolution.key word)
    (tells resolution OtherKey)

abbrev pub on_slot : Resolution → ℕ → Turn Resolution Resolved
on_slot resolution found =
    if found == resolution.expect then tells resolution Still
    else (if found == resolution.fresh then tells resolution Won
    else (if resolution.expect == 0 then tests resolution found
    else walks_to resolution found None))

abbrev pub on_test : Resolution → KeyTest → Tested → Turn Resolution Resolved
on_test resolution key_test tested.Going = goes_to resolution (AtKey key_test)
on_test resolution key_test (tested.Same kind value_len) = goes_to resolution (AtVersion key_test.object None)
on_test resolution key_test tested.Other = tells resolution OtherKey
on_test resolution key_test (tested.Refused node) = tells resolution (Refused node)

-- whether a version falls below the one before it in the walk
abbrev pub falls : Option ℕ → ℕ → Bool
falls before version = option_map_or (λ last. nat_lt version last) before true

abbrev pub on_version : Resolution → Object → Option ℕ → ℕ → Turn Resolution Resolved
on_version resolution object before found =
    if falls before found
    then (if nat_lt resolution.version found then goes_to resolution (AtExpected object found) else tells resolution Beaten)
    else tells resolution Beaten

abbrev pub on_expected : Resolution → ℕ → ℕ → Turn Resolution Resolved
on_expected resolution version found =
    if found == resolution.fresh then tells resolution Won else walks_to resolution found (Some version)

abbrev pub turn_at : Phase → Resolution → Answer → Turn Resolution Resolved
turn_at (AtKey key_test) resolution answer =
    on_test resolution (test.turn key_test answer).state (test.turn key_test answer).told
turn_at AtSlot resolution (Word found) = on_slot resolution found
turn_at (AtVersion object before) resolution (Word found) = on_version resolution object before found
turn_at (AtExpected object version) resolution (Word found) = on_expected resolution version found
turn_at phase resolution Done = record { state = resolution; told = Going }
turn_at phase resolution Lost = tells resolution (Refused (place_of (verb_at phase resolution)).node)

abbrev pub turn : Resolution → Answer → Turn Resolution Resolved
turn resolution answer = turn_at resolution.phase resolution answer

-- each object that is read is one of the pool
abbrev pub IsAt : Phase → Viewed → List ℕ → Type 0
IsAt AtSlot view key = Unit {0}
IsAt (AtKey key_test) view key = IsKeyTest view key key_test
IsAt (AtVersion object before) view key = IsObject view.shape object
IsAt (AtExpected object version) view key = IsObject view.shape object

-- what holds of each resolution under a view
pub record IsResolution (view : Viewed) (resolution : Resolution) : Type 0 where
  pub held : resolution.view ≡ view
  pub is_view : IsView resolution.view
  pub some : 1 ≤ length resolution.key
  pub slot : resolution.slot < 24 * resolution.view.shape.groups
  pub phase : IsAt resolution.phase resolution.view resolution.key

-- a walk back reads versions and what objects replaced, and nothing else
abbrev pub IsWalk : Phase → Type 0
IsWalk AtSlot = ⊥
IsWalk (AtKey key_test) = ⊥
IsWalk (AtVersion object before) = Unit {0}
IsWalk (AtExpected object version) = Unit {0}

-- it tells of no slot that is as it was expected, and of no other key
abbrev pub IsToldByWalk : Resolved → Type 0
IsToldByWalk Going = Unit {0}
IsToldByWalk Still = ⊥
IsToldByWalk Won = Unit {0}
IsToldByWalk Beaten = Unit {0}
IsToldByWalk OtherKey = ⊥
IsToldByWalk (Refused node) = Unit {0}
