-- How many verbs a resolution takes, where no version that its walk reads is above a given one.
use Rattle.std.specs.Prelude.{◌≡◌, ℕ, ◌+◌, ◌-◌, ◌*◌, ◌<◌, ◌≤◌, List, [], ◌∷◌, length, Option, Some, None}
use Rattle.std.specs.Option.{option_map_or}
use Rattle.machine.specs.declared.resolution.Resolved.TheVariants.{Going}
use Rattle.machine.specs.KeyTest as test
use Rattle.machine.specs.KeyTest.{KeyTest}
use Rattle.machine.specs.Resolution.{AtExpected, AtKey, AtSlot, AtVersion, IsResolution, Phase, Resolution, turn}
use Rattle.object_form.specs.Class.{words_for}
use Rattle.verb_words.specs.declared.verbs.Answer.TheVariants.{Word}

-- of a test of the key: its meta word and the key's words
abbrev pub test_left_at : test.Phase → KeyTest → ℕ
test_left_at test.Length key_test = 1 + words_for (length key_test.key)
test_left_at (test.Part word kind value_len) key_test = words_for (length key_test.key) - word

abbrev pub test_left : KeyTest → ℕ
test_left key_test = test_left_at key_test.phase key_test

-- of a walk, from the reading of a version on: two for each version above the write's that may still come, and a last one;
-- each version is below the one before it, and the first is at most this
abbrev pub walk_left : ℕ → ℕ → Option ℕ → ℕ
walk_left most version before = option_map_or (λ last. 2 * (last - version) - 1) before (2 * (most - version) + 1)

abbrev pub verbs_left_at : ℕ → Phase → Resolution → ℕ
verbs_left_at most AtSlot resolution = 1 + (1 + words_for (length resolution.key)) + walk_left most resolution.version None
verbs_left_at most (AtKey key_test) resolution = test_left key_test + walk_left most resolution.version None
verbs_left_at most (AtVersion object before) resolution = walk_left most resolution.version before
verbs_left_at most (AtExpected object version) resolution = 2 * (version - resolution.version)

abbrev pub verbs_left : ℕ → Resolution → ℕ
verbs_left most resolution = verbs_left_at most resolution.phase resolution

-- a word that is read as a version is at most this
abbrev pub IsVersionWithin : ℕ → Phase → ℕ → Type 0
IsVersionWithin most AtSlot found = Unit {0}
IsVersionWithin most (AtKey key_test) found = Unit {0}
IsVersionWithin most (AtVersion object before) found = found ≤ most
IsVersionWithin most (AtExpected object version) found = Unit {0}

-- the version that was read last is above the write's
abbrev pub IsAbove : Phase → ℕ → Type 0
IsAbove AtSlot version = Unit {0}
IsAbove (AtKey key_test) version = Unit {0}
IsAbove (AtVersion object None) version = Unit {0}
IsAbove (AtVersion object (Some last)) version = version < last
IsAbove (AtExpected object last) version = version < last

pub record IsUnderWay (resolution : Resolution) : Type 0 where
  pub state : IsResolution resolution.view resolution
  pub above : IsAbove resolution.phase resolution.version

-- a resolution only goes on at each of these answered words, one after the other, and none that is read as a version is
-- above this one
abbrev pub GoesOn : ℕ → Resolution → List ℕ → Type 0
GoesOn most resolution [] = Unit {0}
GoesOn most resolution (word ∷ words) =
    ((turn resolution (Word word)).told ≡ Going) × IsVersionWithin most resolution.phase word × GoesOn most (turn resolution (Word word)).state words
