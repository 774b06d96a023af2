-- A change of a bit of the program as one of the machine.
use Rattle.std.specs.Prelude.{◌≡◌, ℕ, ◌^◌, ◌<◌, ◌≤◌, Bool, List, map}
use Rattle.machine.specs.BitChange as machine
use Rattle.machine.specs.BitChange.{BitChange, IsBitChange}
use Rattle.machine.specs.ObjectNames.{bitmap_of, block_of}
use Rattle.machine.specs.Places.{homes_of, pair_of}
use Rattle.object_alloc.specs.declared.bits.Phase.{Phase}
use Rattle.object_alloc.specs.declared.bits.Phase.TheVariants as phase
use Rattle.pointer_fields.specs.Pointer.{region_of, unit_of}
use Rattle.region_view.specs.Placed.{Viewed}

abbrev pub phase_of : Phase → machine.Phase
phase_of phase.Look = machine.Look
phase_of phase.Change = machine.Change

abbrev pub change_of : Viewed → ℕ → ℕ → Bool → Bool → ℕ → Phase → BitChange
change_of view pointer class set look replica phase =
    record { view = view; object = record { pointer = pointer; class = class }; set = set; look = look; replica = replica; phase = phase_of phase }

-- a change of a bit, what it says of its pointer, and the places of its bitmap
pub record IsHeld (change : BitChange) (places : List (ℕ × ℕ)) : Type 0 where
  pub state : IsBitChange change.view change
  pub below : change.object.pointer < 2 ^ 28
  pub region : (1 ≤ region_of change.object.pointer) × (region_of change.object.pointer ≤ change.view.shape.regions)
  pub first : 16 ≤ unit_of change.object.pointer
  pub block : block_of change.object.pointer < change.view.shape.blocks
  pub homes : places ≡ map (pair_of change.view.shape) (homes_of change.view (bitmap_of change.object.pointer))
