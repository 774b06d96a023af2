-- A client as one who takes objects and gives them back.
use Rattle.std.specs.Prelude.{ℕ, ◌&&◌, ◌==◌, Bool, Option, None, List, []}
use Rattle.machine.specs.BitChange.{BitChange}
use Rattle.machine.specs.ObjectNames.{Object}
use Rattle.machine.specs.Stock.{Stock, first_stock}
use Rattle.region_view.specs.Sizes.{Sizes}

-- what a choosing gave: the object to write, and the reserve after it, both as pointers
pub record Given : Type 0 where
  pub object : ℕ
  pub next : ℕ

-- the clearing of the bit of the object that a choosing gave
pub data Clearing : Type 0 where
  NotClearing : Clearing
  -- the change of the bit is under way
  Under : (class : ℕ) → (given : Given) → (change : BitChange) → Clearing
  -- the bit is clear on every replica, and the reserve after it is still to be made the reserve
  Cleared : (class : ℕ) → (given : Given) → Clearing

-- whether a client still takes steps, and if not, which of its blocks is released
pub data Service : Type 0 where
  Active : Service
  Retired : Service
  -- so many replicas of the block have its new word
  Releasing : (region block class replicas : ℕ) → Service

pub record Client : Type 0 where
  pub stock : Stock
  -- of each class what its last choosing gave, until the bit of that object is cleared
  pub given : ℕ → Option Given
  pub clearing : Clearing
  pub service : Service
  -- the blocks, as region and number, whose release has begun
  pub released : List (ℕ × ℕ)

abbrev pub first_client : Sizes → ℕ → Client
first_client sizes number =
    record { stock = first_stock number sizes; given = λ class. None; clearing = NotClearing; service = Active; released = [] }

-- what has become of an object since it was last given back
pub data Use : Type 0 where
  Untaken : Use
  -- a client has taken it, and nobody has named it since
  Taken : (client : ℕ) → Use
  -- another one or the same has named it, to give it back
  Named : (client namer : ℕ) → Use
  -- its bit is being set by who named it
  Returning : (client namer : ℕ) → (change : BitChange) → Use

-- whether both are the same object
abbrev pub is_same : Object → Object → Bool
is_same one other = (one.pointer == other.pointer) && (one.class == other.class)
