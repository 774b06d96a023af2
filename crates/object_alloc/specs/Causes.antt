-- What the answers of a choosing stand on.
use Rattle.std.specs.Prelude.{◌≡◌, ℕ, ◌*◌, ◌≤◌, Some}
use Rattle.machine.specs.Choosing.{first_awaited}
use Rattle.machine.specs.Stock.{Stock, class_stock, first_free}

-- the class's reserve is this object, and beside it that one is the lowest ripe object of the first own block that has one
pub record HasObjects (stock : Stock) (object next : ℕ) : Type 0 where
  pub reserve_is : (class_stock stock).reserve ≡ Some object
  pub next_is : first_free stock.class (class_stock stock) ≡ Some next

-- the choosing has gone past each block of the pool, and this client is the first that is awaited, at this begin word; zeros
-- where none is
pub record IsSpent (stock : Stock) (class client begin : ℕ) : Type 0 where
  pub class_is : class ≡ stock.class
  pub past : stock.shape.regions * stock.shape.blocks ≤ stock.position
  pub awaited : (client, begin) ≡ first_awaited stock
