-- A walk back along versions stays one, and tells that the word was the slot's or was beaten.
use Rattle.std.proofs.Common.{◌≡◌, ℕ, ◌==◌, Bool, true, false, Option, Some, None, refl}
use Rattle.std.specs.Prelude.{nat_lt}
use Rattle.machine.specs.declared.resolution.Resolved.{Resolved}
use Rattle.machine.specs.ObjectNames.{Object, object_in}
use Rattle.machine.specs.Resolution.{AtExpected, AtKey, AtSlot, AtVersion, IsToldByWalk, IsWalk, Phase, Resolution, falls, on_expected, on_version, turn, turn_at, walks_to}
use Rattle.machine.specs.Turn.{Turn}
use Rattle.verb_words.specs.declared.verbs.Answer.{Answer}
use Rattle.verb_words.specs.declared.verbs.Answer.TheVariants.{Done, Lost, Word}

pub record IsWalking (turn : Turn Resolution Resolved) : Type 0 where
  pub phase : IsWalk turn.state.phase
  pub told : IsToldByWalk turn.told

walks_to-walking : (resolution : Resolution) (word : ℕ) (before : Option ℕ) → IsWalk resolution.phase → IsWalking (walks_to resolution word before)
walks_to-walking resolution word before is = by (object_in resolution.view.shape word) refl
  where
    by : (object : Option Object) → object_in resolution.view.shape word ≡ object → IsWalking (walks_to resolution word before)
    by None none = rw none (record { phase = is; told = tt })
    by (Some object) named = rw named (record { phase = tt; told = tt })

on_version-walking : (resolution : Resolution) (object : Object) (before : Option ℕ) (found : ℕ) → IsWalk resolution.phase → IsWalking (on_version resolution object before found)
on_version-walking resolution object before found is = by (falls before found) refl (nat_lt resolution.version found) refl
  where
    by : (t : Bool) → falls before found ≡ t → (u : Bool) → nat_lt resolution.version found ≡ u → IsWalking (on_version resolution object before found)
    by true lower true above = rw (lower, above) (record { phase = tt; told = tt })
    by true lower false below = rw (lower, below) (record { phase = is; told = tt })
    by false not_lower u above = rw not_lower (record { phase = is; told = tt })

on_expected-walking : (resolution : Resolution) (version found : ℕ) → IsWalk resolution.phase → IsWalking (on_expected resolution version found)
on_expected-walking resolution version found is = by (found == resolution.fresh) refl
  where
    by : (t : Bool) → (found == resolution.fresh) ≡ t → IsWalking (on_expected resolution version found)
    by true own = rw own (record { phase = is; told = tt })
    by false other = rw other (walks_to-walking resolution found (Some version) is)

turn_at-walking : (phase : Phase) (resolution : Resolution) (answer : Answer) → IsWalk phase → IsWalk resolution.phase → IsWalking (turn_at phase resolution answer)
turn_at-walking AtSlot resolution answer at is = absurd at
turn_at-walking (AtKey key_test) resolution answer at is = absurd at
turn_at-walking (AtVersion object before) resolution (Word found) at is = on_version-walking resolution object before found is
turn_at-walking (AtVersion object before) resolution Done at is = record { phase = is; told = tt }
turn_at-walking (AtVersion object before) resolution Lost at is = record { phase = is; told = tt }
turn_at-walking (AtExpected object version) resolution (Word found) at is = on_expected-walking resolution version found is
turn_at-walking (AtExpected object version) resolution Done at is = record { phase = is; told = tt }
turn_at-walking (AtExpected object version) resolution Lost at is = record { phase = is; told = tt }

pub turn-walking : (resolution : Resolution) (answer : Answer) → IsWalk resolution.phase → IsWalking (turn resolution answer)
turn-walking resolution answer is = turn_at-walking resolution.phase resolution answer is is
