-- A joining stays one, and its verbs go to places of the pool.
use Rattle.std.proofs.Common.{◌≡◌, ℕ, ◌≤◌, Option, Some, None, refl, arith, subst}
use Rattle.machine.specs.EpochRead.{open_mask}
use Rattle.machine.specs.Joining.{IsJoining, Joining, Phase, ReadEpoch, Admit, joining_of, next, on_epoch, turn, turn_at, verb_at}
use Rattle.machine.specs.Places.{IsInPool}
use Rattle.machine.proofs.PlacesLemmas.{control-inside}
use Rattle.region_view.specs.Control.{EpochWord, Status}
use Rattle.region_view.specs.Sizes.{IsWithinLimits, Sizes}
use Rattle.verb_words.specs.declared.verbs.Answer.{Answer}
use Rattle.verb_words.specs.declared.verbs.Answer.TheVariants.{Word, Done, Lost}
use Rattle.verb_words.specs.Verb.{place_of}

pub joining_of-is : (sizes : Sizes) (node : ℕ) → IsWithinLimits sizes → 1 ≤ node → node ≤ sizes.nodes → IsJoining sizes (joining_of sizes node)
joining_of-is sizes node limits least most = record { same_shape = refl; limits = limits; node = (least, most) }

-- the same joining at another phase
at_phase : (s : Sizes) (joining : Joining) (phase : Phase) → IsJoining s joining → IsJoining s (record joining { phase = phase })
at_phase s joining phase is = record { same_shape = is.same_shape; limits = is.limits; node = is.node }

on_epoch-is : (s : Sizes) (joining : Joining) (found : ℕ) → IsJoining s joining → IsJoining s (on_epoch joining found).state
on_epoch-is s joining found is = by (open_mask joining.shape found) refl
  where
    by : (mask : Option ℕ) → open_mask joining.shape found ≡ mask → IsJoining s (on_epoch joining found).state
    by None at = rw at is
    by (Some mask) at = rw at (at_phase s joining Admit is)

turn_at-is : (s : Sizes) (phase : Phase) (joining : Joining) (answer : Answer) → IsJoining s joining → IsJoining s (turn_at phase joining answer).state
turn_at-is s ReadEpoch joining (Word found) is = on_epoch-is s joining found is
turn_at-is s ReadEpoch joining Done is = is
turn_at-is s ReadEpoch joining Lost is = is
turn_at-is s Admit joining (Word found) is = is
turn_at-is s Admit joining Done is = is
turn_at-is s Admit joining Lost is = is

-- a joining stays one, whatever is answered
pub turn-is : (s : Sizes) (joining : Joining) (answer : Answer) → IsJoining s joining → IsJoining s (turn joining answer).state
turn-is s joining answer is = turn_at-is s joining.phase joining answer is

verb_at-inside : (s : Sizes) (phase : Phase) (joining : Joining) → IsJoining s joining → IsInPool joining.shape (place_of (verb_at phase joining))
verb_at-inside s ReadEpoch joining is = control-inside joining.shape EpochWord tt
verb_at-inside s Admit joining is = control-inside joining.shape (Status joining.node) (is.node.0, omega (arith, is.node, is.limits.nodes))

-- its verb goes to a place of the pool
pub next-inside : (s : Sizes) (joining : Joining) → IsJoining s joining → IsInPool s (place_of (next joining))
next-inside s joining is =
    let P : Sizes → Type 0 = λ sizes. IsInPool sizes (place_of (next joining)) in
    subst P is.same_shape (verb_at-inside s joining.phase joining is)
