-- A walk of the program as one of the machine.
use Rattle.std.specs.Prelude.{ℕ, if◌then◌else◌, Option, Some, None}
use Rattle.embedded_log.specs.declared.walking.Phase.{Phase}
use Rattle.embedded_log.specs.declared.walking.Phase.TheVariants.{AtHead, AtObject}
use Rattle.machine.specs.LinkWalk as machine
use Rattle.machine.specs.LinkWalk.{LinkWalk}
use Rattle.machine.specs.ObjectNames.{names_object}
use Rattle.region_view.specs.Placed.{Viewed}
use Rattle.region_view.specs.Sizes.{Sizes}

abbrev pub phase_of : Phase → machine.Phase
phase_of AtHead = machine.AtHead
phase_of (AtObject pointer) = machine.AtObject pointer

abbrev pub walk_of : Viewed → ℕ → ℕ → Option (ℕ × ℕ) → Phase → LinkWalk
walk_of view client class last phase =
    record { view = view; client = client; class = class; last = last; phase = phase_of phase }

-- the pointer that a word says, if it names an object of the class
abbrev pub pointer_in : Sizes → ℕ → ℕ → Option ℕ
pointer_in sizes class word = if names_object sizes class word then Some word else None
