-- What is in stock, and what the clients hold ready, nobody has taken.
use Rattle.std.specs.Prelude.{◌≡◌, ℕ, true, ◌⊎◌}
use Rattle.machine.specs.ObjectNames.{IsObject, Object, block_of, number_of}
use Rattle.pointer_fields.specs.Pointer.{region_of}
use Rattle.object_division.specs.Claims.{IsGranted}
use Rattle.object_division.specs.Client.{Active, Cleared, Given, Untaken}
use Rattle.object_division.specs.Marks.{IsMarked, blocks_of}
use Rattle.object_division.specs.Run.{State, is_in_stock, object_of}

-- What is found in stock nobody has taken; and what a client holds ready nobody has taken.
pub record IsStocked (state : State) : Type 0 where
  -- an object of a granted block whose bit is set on the primary is untaken
  pub found : (object : Object) → IsObject state.view.shape object → IsGranted state object → is_in_stock state object ≡ true
      → state.uses object ≡ Untaken
  -- what is ripe or waits at a client that takes steps is untaken, but for the object that this client has just cleared
  pub marked : (client : ℕ) (object : Object) → (state.clients client).service ≡ Active → IsObject state.view.shape object
      → IsMarked (blocks_of (state.clients client).stock object.class) (region_of object.pointer) (block_of object.pointer) (number_of object.pointer object.class)
      → (state.uses object ≡ Untaken)
      ⊎ ((given : Given) × ((state.clients client).clearing ≡ Cleared object.class given) × (object ≡ object_of object.class given))
