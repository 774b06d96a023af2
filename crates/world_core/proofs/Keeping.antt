-- What holds of every world that a run leads to.
use Rattle.std.proofs.Common.{◌≡◌, ℕ, ◌*◌, ◌<◌, ◌≤◌, ◌⊎◌, true, false, length}
use Rattle.machine.specs.Client.{is_idle, own_object}
use Rattle.machine.specs.ObjectNames.{IsObject}
use Rattle.machine_world.specs.World.{World, client_at, unit_count}
use Rattle.world_ledger.specs.Kept.{has_rank}

-- the past has a list of decisions for each slot, a holder for each unit and a last read for each client, each winner has a
-- rank left for one more beaten call, no client has made more calls than it may, and a call has no object or one of the pool
pub record IsKept (world : World) : Type 0 where
  pub decided : length world.ledger.decided ≡ 24 * world.shape.groups
  pub holders : length world.ledger.holders ≡ unit_count world.shape
  pub reads : length world.ledger.reads ≡ length world.clients
  pub ranks : (slot version : ℕ) → has_rank world.ledger (slot, version) ≡ true
  pub numbers : (client : ℕ) → 1 ≤ client → client < length world.clients → (client_at world client).number ≤ world.shape.calls
  pub objects : (client : ℕ) → 1 ≤ client → client < length world.clients → is_idle (client_at world client) ≡ false
      → ((client_at world client).object ≡ 0) ⊎ IsObject world.shape (own_object (client_at world client))
