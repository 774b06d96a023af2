-- Blocks and objects, counted one after the other by their states.
use Rattle.std.specs.Prelude.{ℕ, ◌+◌, ◌/◌, ◌%◌, ◌≤◌, Bool, if◌then◌else◌, List, [], ◌∷◌}
use Rattle.machine.specs.ObjectNames.{Object, pointer_to}
use Rattle.machine_world.specs.Readings.{block_state, is_in_stock}
use Rattle.machine_world.specs.World.{World}
use Rattle.machine_world.specs.declared.parts.BlockState.{BlockState}
use Rattle.machine_world.specs.declared.parts.BlockState.TheVariants as of_block
use Rattle.machine_world.specs.declared.parts.Division.{Division}
use Rattle.region_view.specs.Sizes.{Sizes}
use Rattle.world_ledger.specs.NamedUnits.{is_named}

abbrev pub no_division : Division
no_division = record { unused = 0; owned = 0; awaiting = 0; released = 0; stock = 0; present = 0; held = 0 }

-- one block more
abbrev pub with_block : BlockState → Division → Division
with_block of_block.Unused division = record division { unused = division.unused + 1 }
with_block (of_block.Owned client) division = record division { owned = division.owned + 1 }
with_block (of_block.Awaiting client) division = record division { awaiting = division.awaiting + 1 }
with_block of_block.Released division = record division { released = division.released + 1 }

-- one object more: one in stock, one that a slot names, or one that is held
abbrev pub with_object : Bool → Bool → Division → Division
with_object in_stock named division =
    if in_stock then record division { stock = division.stock + 1 }
    else (if named then record division { present = division.present + 1 } else record division { held = division.held + 1 })

abbrev pub with_blocks : World → List (ℕ × ℕ) → Division → Division
with_blocks world [] division = division
with_blocks world (block ∷ blocks) division = with_blocks world blocks (with_block (block_state world block.0 block.1) division)

abbrev pub with_objects : Sizes → List (List ℕ) → List Object → Division → Division
with_objects sizes nodes [] division = division
with_objects sizes nodes (object ∷ objects) division =
    with_objects sizes nodes objects (with_object (is_in_stock sizes nodes object) (is_named sizes nodes object.pointer) division)

-- the block at a position among those of all data regions
abbrev pub block_at : Sizes → ℕ → ℕ × ℕ
block_at sizes position = (1 + position / sizes.blocks, position % sizes.blocks)

-- object j of a block
abbrev pub object_at : ℕ → ℕ → ℕ → ℕ → Object
object_at region block class j = record { pointer = pointer_to region block class j; class = class }

-- each count is so much at most
pub record IsAtMost (n : ℕ) (division : Division) : Type 0 where
  pub unused : division.unused ≤ n
  pub owned : division.owned ≤ n
  pub awaiting : division.awaiting ≤ n
  pub released : division.released ≤ n
  pub stock : division.stock ≤ n
  pub present : division.present ≤ n
  pub held : division.held ≤ n
