-- The joining of a lost node that stands outside the mask: its status word is set live while the epoch is open.
use Rattle.std.specs.Prelude.{◌≡◌, ℕ, ◌≤◌}
use Rattle.std.specs.Option.{option_map_or}
use Rattle.machine.specs.declared.joining.Joined.{Joined}
use Rattle.machine.specs.declared.joining.Joined.TheVariants as joined
use Rattle.machine.specs.EpochRead.{open_mask}
use Rattle.machine.specs.Places.{control}
use Rattle.machine.specs.Turn.{Turn}
use Rattle.region_view.specs.Control.{EpochWord, Status}
use Rattle.region_view.specs.Sizes.{IsWithinLimits, Sizes}
use Rattle.verb_words.specs.declared.verbs.Answer.{Answer}
use Rattle.verb_words.specs.declared.verbs.Answer.TheVariants.{Word, Done}
use Rattle.verb_words.specs.declared.verbs.Verb.{Verb}
use Rattle.verb_words.specs.declared.verbs.Verb.TheVariants.{Read, Write}
use Rattle.verb_words.specs.declared.verbs.Why.TheVariants.{Sealed}

-- ReadEpoch: reads the epoch word. Admit: writes the node's status word
pub data Phase : Type 0 where
  ReadEpoch : Phase
  Admit : Phase

pub record Joining : Type 0 where
  pub shape : Sizes
  pub node : ℕ
  pub phase : Phase

abbrev pub joining_of : Sizes → ℕ → Joining
joining_of sizes node = record { shape = sizes; node = node; phase = ReadEpoch }

abbrev pub verb_at : Phase → Joining → Verb
verb_at ReadEpoch joining = Read (control EpochWord)
verb_at Admit joining = Write (control (Status joining.node)) 0

abbrev pub next : Joining → Verb
next joining = verb_at joining.phase joining

abbrev pub goes_to : Joining → Phase → Turn Joining Joined
goes_to joining phase = record { state = record joining { phase = phase }; told = joined.Going }

abbrev pub tells : Joining → Joined → Turn Joining Joined
tells joining told = record { state = joining; told = told }

abbrev pub on_epoch : Joining → ℕ → Turn Joining Joined
on_epoch joining found =
    option_map_or (λ mask. goes_to joining Admit) (open_mask joining.shape found) (tells joining (joined.NotYet (Sealed found)))

abbrev pub turn_at : Phase → Joining → Answer → Turn Joining Joined
turn_at ReadEpoch joining (Word found) = on_epoch joining found
turn_at Admit joining Done = tells joining joined.Joined
turn_at phase joining answer = tells joining joined.Going

abbrev pub turn : Joining → Answer → Turn Joining Joined
turn joining answer = turn_at joining.phase joining answer

-- what holds of each joining
pub record IsJoining (sizes : Sizes) (joining : Joining) : Type 0 where
  pub same_shape : joining.shape ≡ sizes
  pub limits : IsWithinLimits joining.shape
  pub node : (1 ≤ joining.node) × (joining.node ≤ joining.shape.nodes)
