-- What a resolution's answers stand on: the word that was found, by what was read.
use Rattle.std.specs.Prelude.{◌≡◌, ◌≢◌, ℕ, ◌≤◌, ◌⊎◌, None, false}
use Rattle.machine.specs.declared.key_test.Tested.TheVariants as tested
use Rattle.machine.specs.KeyTest as test
use Rattle.machine.specs.ObjectNames.{candidate_in, object_in}
use Rattle.machine.specs.Resolution.{AtExpected, AtKey, AtSlot, AtVersion, Phase, Resolution, falls}
use Rattle.verb_words.specs.declared.verbs.Answer.TheVariants.{Word}

-- a word that is neither the expected one nor the fresh one
abbrev pub IsAnother : Resolution → ℕ → Type 0
IsAnother resolution found = (found ≢ resolution.expect) × (found ≢ resolution.fresh)

-- the slot has the expected word
abbrev pub IsStill : Phase → Resolution → ℕ → Type 0
IsStill AtSlot resolution found = found ≡ resolution.expect
IsStill (AtKey key_test) resolution found = ⊥
IsStill (AtVersion object before) resolution found = ⊥
IsStill (AtExpected object version) resolution found = ⊥

-- the slot has the fresh word, or an object replaced it
abbrev pub IsWon : Phase → Resolution → ℕ → Type 0
IsWon AtSlot resolution found = (found ≢ resolution.expect) × (found ≡ resolution.fresh)
IsWon (AtKey key_test) resolution found = ⊥
IsWon (AtVersion object before) resolution found = ⊥
IsWon (AtExpected object version) resolution found = found ≡ resolution.fresh

-- no further object can have replaced the fresh word: the next word names none, or the object's version is not above the
-- write's, or it does not fall
abbrev pub IsBeaten : Phase → Resolution → ℕ → Type 0
IsBeaten AtSlot resolution found = IsAnother resolution found × (resolution.expect ≢ 0) × (object_in resolution.view.shape found ≡ None)
IsBeaten (AtKey key_test) resolution found = ⊥
IsBeaten (AtVersion object before) resolution found = (falls before found ≡ false) ⊎ (found ≤ resolution.version)
IsBeaten (AtExpected object version) resolution found = (found ≢ resolution.fresh) × (object_in resolution.view.shape found ≡ None)

-- the slot was to be empty, and its word does not name an object that may have the key, or the object has another one
abbrev pub IsOther : Phase → Resolution → ℕ → Type 0
IsOther AtSlot resolution found =
    IsAnother resolution found × (resolution.expect ≡ 0) × (candidate_in resolution.view.shape resolution.key found ≡ None)
IsOther (AtKey key_test) resolution found = (test.turn key_test (Word found)).told ≡ tested.Other
IsOther (AtVersion object before) resolution found = ⊥
IsOther (AtExpected object version) resolution found = ⊥
