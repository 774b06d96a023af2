-- How many verbs a resolution takes.
use Rattle.std.proofs.Common.{◌≡◌, ℕ, ◌+◌, ◌-◌, ◌*◌, ◌==◌, ◌<◌, ◌≤◌, Bool, true, false, List, [], ◌∷◌, length, Option, Some, None, refl, sym, subst, arith, if◌then◌else◌}
use Rattle.std.specs.Option.{option_map_or}
use Rattle.std.specs.Prelude.{nat_lt}
use Rattle.std.proofs.lemmas.Bool.Decides.{nat_tests}
use Rattle.kv_write.specs.Bound.{GoesOn, IsAbove, IsUnderWay, IsVersionWithin, test_left, test_left_at, verbs_left, verbs_left_at, walk_left}
use Rattle.machine.specs.declared.key_test.Tested.{Tested}
use Rattle.machine.specs.declared.key_test.Tested.TheVariants as tested
use Rattle.machine.specs.declared.resolution.Resolved.{Resolved}
use Rattle.machine.specs.declared.resolution.Resolved.TheVariants.{Going, Still, Won, Beaten, OtherKey}
use Rattle.machine.specs.EpochRead.{IsView}
use Rattle.machine.specs.KeyTest as test
use Rattle.machine.specs.KeyTest.{IsKeyTest, KeyTest, goes, matched, meta_for}
use Rattle.machine.specs.ObjectNames.{Object, candidate_in, object_in}
use Rattle.machine.specs.Resolution.{AtExpected, AtKey, AtSlot, AtVersion, IsAt, IsResolution, Phase, Resolution, falls, goes_to, on_test, resolution_of, tells, tests, turn, turn_at, walks_to}
use Rattle.machine.specs.Turn.{Turn}
use Rattle.machine.proofs.ResolutionLemmas.{resolution_of-is, turn-is}
use Rattle.object_form.specs.declared.metas.Kind.{Kind}
use Rattle.object_form.specs.declared.metas.Meta.{Meta}
use Rattle.object_form.specs.Class.{IsKeyLength, words_for}
use Rattle.object_form.specs.Content.{word_from}
use Rattle.region_view.specs.Placed.{Viewed}
use Rattle.verb_words.specs.declared.verbs.Answer.{Answer}
use Rattle.verb_words.specs.declared.verbs.Answer.TheVariants.{Word, Done, Lost}

-- ---- a test of the key

-- where a test goes on, it has fewer verbs left than this
abbrev TestFalls : ℕ → Turn KeyTest Tested → Type 0
TestFalls bound after = after.told ≡ tested.Going → test_left after.state < bound

length-falls : (key_test : KeyTest) (meta : Option Meta)
    → TestFalls (1 + words_for (length key_test.key)) (option_map_or (λ (m : Meta). goes (record key_test { phase = test.Part 0 m.kind m.value_len })) meta (test.tells key_test tested.Other))
length-falls key_test None told = absurd cc
length-falls key_test (Some meta) told = omega arith

matched-falls : (key_test : KeyTest) (word : ℕ) (kind : Kind) (value_len : ℕ) (last : Bool) → word < words_for (length key_test.key)
    → TestFalls (words_for (length key_test.key) - word) (if last then test.tells key_test (tested.Same kind value_len) else goes (record key_test { phase = test.Part (word + 1) kind value_len }))
matched-falls key_test word kind value_len true within told = absurd cc
matched-falls key_test word kind value_len false within told = omega arith

part-falls : (key_test : KeyTest) (word : ℕ) (kind : Kind) (value_len : ℕ) (same : Bool) → word < words_for (length key_test.key)
    → TestFalls (words_for (length key_test.key) - word) (if same then matched key_test word kind value_len else test.tells key_test tested.Other)
part-falls key_test word kind value_len true within told = matched-falls key_test word kind value_len (word + 1 == words_for (length key_test.key)) within told
part-falls key_test word kind value_len false within told = absurd cc

test_at-falls : (phase : test.Phase) (key_test : KeyTest) (found : ℕ) → test.IsAt phase (length key_test.key) key_test.object.class → TestFalls (test_left_at phase key_test) (test.turn_at phase key_test found)
test_at-falls test.Length key_test found at = length-falls key_test (meta_for key_test found)
test_at-falls (test.Part word kind value_len) key_test found at = part-falls key_test word kind value_len (found == word_from key_test.key word) at.0

test_at-some : (phase : test.Phase) (key_test : KeyTest) → test.IsAt phase (length key_test.key) key_test.object.class → 0 < test_left_at phase key_test
test_at-some test.Length key_test at = omega arith
test_at-some (test.Part word kind value_len) key_test at = omega (arith, at.0)

-- ---- a resolution

-- where a resolution goes on, it has fewer verbs left than this
abbrev Falls : ℕ → ℕ → Turn Resolution Resolved → Type 0
Falls most bound after = after.told ≡ Going → verbs_left most after.state < bound

walks_to-falls : (most bound : ℕ) (resolution : Resolution) (before : Option ℕ) (object : Option Object) → walk_left most resolution.version before < bound
    → Falls most bound (option_map_or (λ o. goes_to resolution (AtVersion o before)) object (tells resolution Beaten))
walks_to-falls most bound resolution before None below told = absurd cc
walks_to-falls most bound resolution before (Some object) below told = below

tests-falls : (most : ℕ) (resolution : Resolution) (object : Option Object)
    → Falls most (verbs_left_at most AtSlot resolution)
    (option_map_or (λ o. goes_to resolution (AtKey (test.key_test_of resolution.view resolution.key o))) object (tells resolution OtherKey))
tests-falls most resolution None told = absurd cc
tests-falls most resolution (Some object) told = omega arith

slot-falls : (most : ℕ) (resolution : Resolution) (found : ℕ) (same fresh empty : Bool)
    → Falls most (verbs_left_at most AtSlot resolution)
    (if same then tells resolution Still else (if fresh then tells resolution Won else (if empty then tests resolution found else walks_to resolution found None)))
slot-falls most resolution found true fresh empty told = absurd cc
slot-falls most resolution found false true empty told = absurd cc
slot-falls most resolution found false false true told = tests-falls most resolution (candidate_in resolution.view.shape resolution.key found) told
slot-falls most resolution found false false false told =
    walks_to-falls most (verbs_left_at most AtSlot resolution) resolution None (object_in resolution.view.shape found) (omega arith) told

key-falls : (most bound : ℕ) (resolution : Resolution) (after : Turn KeyTest Tested) → TestFalls bound after → 0 < bound
    → Falls most (bound + walk_left most resolution.version None) (on_test resolution after.state after.told)
key-falls most bound resolution after fewer some = by after.told refl
  where
    by : (told : Tested) → after.told ≡ told → Falls most (bound + walk_left most resolution.version None) (on_test resolution after.state told)
    by tested.Going is told = omega (arith, fewer is)
    by (tested.Same kind value_len) is told = omega arith
    by tested.Other is told = absurd cc
    by (tested.Refused node) is told = absurd cc

version-left : (most : ℕ) (resolution : Resolution) (before : Option ℕ) (found : ℕ) → falls before found ≡ true → found ≤ most → resolution.version < found
    → 2 * (found - resolution.version) < walk_left most resolution.version before
version-left most resolution None found down within above = omega arith
version-left most resolution (Some last) found down within above = let lower : found < last = grind (arith, nat_tests) in omega arith

version-falls : (most : ℕ) (resolution : Resolution) (object : Object) (before : Option ℕ) (found : ℕ) (down above : Bool) → falls before found ≡ down → nat_lt resolution.version found ≡ above → found ≤ most
    → Falls most (walk_left most resolution.version before)
    (if down then (if above then goes_to resolution (AtExpected object found) else tells resolution Beaten) else tells resolution Beaten)
version-falls most resolution object before found true true down above within told =
    let over : resolution.version < found = grind (arith, nat_tests) in
    version-left most resolution before found down within over
version-falls most resolution object before found true false down above within told = absurd cc
version-falls most resolution object before found false above down is within told = absurd cc

expected-falls : (most : ℕ) (resolution : Resolution) (version found : ℕ) (fresh : Bool) → resolution.version < version
    → Falls most (2 * (version - resolution.version)) (if fresh then tells resolution Won else walks_to resolution found (Some version))
expected-falls most resolution version found true above told = absurd cc
expected-falls most resolution version found false above told =
    walks_to-falls most (2 * (version - resolution.version)) resolution (Some version) (object_in resolution.view.shape found) (omega arith) told

turn_at-falls : (most : ℕ) (phase : Phase) (resolution : Resolution) (found : ℕ) → IsAt phase resolution.view resolution.key → IsAbove phase resolution.version → IsVersionWithin most phase found
    → Falls most (verbs_left_at most phase resolution) (turn_at phase resolution (Word found))
turn_at-falls most AtSlot resolution found at above within = slot-falls most resolution found (found == resolution.expect) (found == resolution.fresh) (resolution.expect == 0)
turn_at-falls most (AtKey key_test) resolution found at above within =
    key-falls most (test_left key_test) resolution (test.turn key_test (Word found)) (test_at-falls key_test.phase key_test found at.phase) (test_at-some key_test.phase key_test at.phase)
turn_at-falls most (AtVersion object before) resolution found at above within =
    version-falls most resolution object before found (falls before found) (nat_lt resolution.version found) refl refl within
turn_at-falls most (AtExpected object version) resolution found at above within = expected-falls most resolution version found (found == resolution.fresh) above

-- each answer at which a resolution goes on takes one of the verbs that are left
pub verbs_left-falls : (most : ℕ) (resolution : Resolution) (word : ℕ) → IsUnderWay resolution → IsVersionWithin most resolution.phase word → (turn resolution (Word word)).told ≡ Going
    → verbs_left most (turn resolution (Word word)).state < verbs_left most resolution
verbs_left-falls most resolution word is within told = turn_at-falls most resolution.phase resolution word is.state.phase is.above within told

-- ---- a resolution stays under way

abbrev Above : Turn Resolution Resolved → Type 0
Above after = IsAbove after.state.phase after.state.version

walks_to-above : (resolution : Resolution) (before : Option ℕ) (object : Option Object) → IsAbove resolution.phase resolution.version → ((o : Object) → IsAbove (AtVersion o before) resolution.version)
    → Above (option_map_or (λ o. goes_to resolution (AtVersion o before)) object (tells resolution Beaten))
walks_to-above resolution before None stays above = stays
walks_to-above resolution before (Some object) stays above = above object

tests-above : (resolution : Resolution) (object : Option Object) → IsAbove resolution.phase resolution.version
    → Above (option_map_or (λ o. goes_to resolution (AtKey (test.key_test_of resolution.view resolution.key o))) object (tells resolution OtherKey))
tests-above resolution None stays = stays
tests-above resolution (Some object) stays = tt

slot-above : (resolution : Resolution) (found : ℕ) (same fresh empty : Bool) → IsAbove resolution.phase resolution.version
    → Above (if same then tells resolution Still else (if fresh then tells resolution Won else (if empty then tests resolution found else walks_to resolution found None)))
slot-above resolution found true fresh empty stays = stays
slot-above resolution found false true empty stays = stays
slot-above resolution found false false true stays = tests-above resolution (candidate_in resolution.view.shape resolution.key found) stays
slot-above resolution found false false false stays = walks_to-above resolution None (object_in resolution.view.shape found) stays (λ o. tt)

key-above : (resolution : Resolution) (key_test : KeyTest) (told : Tested) → IsAbove resolution.phase resolution.version → Above (on_test resolution key_test told)
key-above resolution key_test tested.Going stays = tt
key-above resolution key_test (tested.Same kind value_len) stays = tt
key-above resolution key_test tested.Other stays = stays
key-above resolution key_test (tested.Refused node) stays = stays

version-above : (resolution : Resolution) (object : Object) (found : ℕ) (down above : Bool) → nat_lt resolution.version found ≡ above → IsAbove resolution.phase resolution.version
    → Above (if down then (if above then goes_to resolution (AtExpected object found) else tells resolution Beaten) else tells resolution Beaten)
version-above resolution object found true true above stays = let over : resolution.version < found = grind (arith, nat_tests) in over
version-above resolution object found true false above stays = stays
version-above resolution object found false above is stays = stays

expected-above : (resolution : Resolution) (version found : ℕ) (fresh : Bool) → resolution.version < version → IsAbove resolution.phase resolution.version
    → Above (if fresh then tells resolution Won else walks_to resolution found (Some version))
expected-above resolution version found true above stays = stays
expected-above resolution version found false above stays = walks_to-above resolution (Some version) (object_in resolution.view.shape found) stays (λ o. above)

turn_at-above : (phase : Phase) (resolution : Resolution) (answer : Answer) → IsAbove phase resolution.version → IsAbove resolution.phase resolution.version → Above (turn_at phase resolution answer)
turn_at-above (AtKey key_test) resolution answer at stays = key-above resolution (test.turn key_test answer).state (test.turn key_test answer).told stays
turn_at-above AtSlot resolution (Word found) at stays = slot-above resolution found (found == resolution.expect) (found == resolution.fresh) (resolution.expect == 0) stays
turn_at-above (AtVersion object before) resolution (Word found) at stays = version-above resolution object found (falls before found) (nat_lt resolution.version found) refl stays
turn_at-above (AtExpected object version) resolution (Word found) at stays = expected-above resolution version found (found == resolution.fresh) at stays
turn_at-above AtSlot resolution Done at stays = stays
turn_at-above (AtVersion object before) resolution Done at stays = stays
turn_at-above (AtExpected object version) resolution Done at stays = stays
turn_at-above AtSlot resolution Lost at stays = stays
turn_at-above (AtVersion object before) resolution Lost at stays = stays
turn_at-above (AtExpected object version) resolution Lost at stays = stays

same_view : (view : Viewed) (resolution : Resolution) → IsResolution view resolution → IsResolution resolution.view resolution
same_view view resolution is = subst (λ v. IsResolution v resolution) (sym is.held) is

pub begun-under_way : (view : Viewed) (slot expect fresh version : ℕ) (key : List ℕ) → IsView view → slot < 24 * view.shape.groups → IsKeyLength (length key)
    → IsUnderWay (resolution_of view slot expect fresh version key)
begun-under_way view slot expect fresh version key is below len = record { state = resolution_of-is view slot expect fresh version key is len.0 below; above = tt }

pub turn-kept : (resolution : Resolution) (answer : Answer) → IsUnderWay resolution → IsUnderWay (turn resolution answer).state
turn-kept resolution answer is = record {
  state = same_view resolution.view (turn resolution answer).state (turn-is resolution.view resolution answer is.state);
  above = turn_at-above resolution.phase resolution answer is.above is.above;
}

-- ---- few verbs

walk-some : (most : ℕ) (object : Object) (before : Option ℕ) (version : ℕ) → IsAbove (AtVersion object before) version → 0 < walk_left most version before
walk-some most object None version above = omega arith
walk-some most object (Some last) version above = omega arith

some_left : (most : ℕ) (phase : Phase) (resolution : Resolution) → IsAbove phase resolution.version → 0 < verbs_left_at most phase resolution
some_left most AtSlot resolution above = omega arith
some_left most (AtKey key_test) resolution above = omega arith
some_left most (AtVersion object before) resolution above = walk-some most object before resolution.version above
some_left most (AtExpected object version) resolution above = omega arith

few : (most : ℕ) (resolution : Resolution) (words : List ℕ) → IsUnderWay resolution → GoesOn most resolution words → length words < verbs_left most resolution
few most resolution [] is on = some_left most resolution.phase resolution is.above
few most resolution (word ∷ words) is on =
    omega (arith, few most (turn resolution (Word word)).state words (turn-kept resolution (Word word) is) on.2, verbs_left-falls most resolution word is on.1 on.0)

pub few_verbs : (most : ℕ) (view : Viewed) (slot expect fresh version : ℕ) (key words : List ℕ) → IsView view → slot < 24 * view.shape.groups → IsKeyLength (length key)
    → GoesOn most (resolution_of view slot expect fresh version key) words → length words ≤ 2 + words_for (length key) + 2 * (most - version)
few_verbs most view slot expect fresh version key words is below len on =
    omega (arith, few most (resolution_of view slot expect fresh version key) words (begun-under_way view slot expect fresh version key is below len) on)
