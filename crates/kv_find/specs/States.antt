-- What is true of a search from its beginning on.
use Rattle.std.specs.Prelude.{◌≡◌, ℕ, ◌<◌, ◌≤◌, length}
use Rattle.machine.specs.KeySearch.{IsKeySearch, KeySearch}
use Rattle.machine.specs.Places.{slot_primary}
use Rattle.slot_order.specs.Fnv.{finger_of}

-- a search, with the fingerprint of its key and the node at hand on which the slots are read
pub record IsHeld (search : KeySearch) (finger primary : ℕ) : Type 0 where
  pub state : IsKeySearch search.view search.key search
  pub print : finger ≡ finger_of search.key
  pub slots : (slot : ℕ) → slot_primary search.view slot ≡ record { node = primary; at = slot }
  pub some : 1 ≤ length search.key
  pub key : length search.key ≤ 64
  pub place : search.place < length search.order
  pub order : length search.order ≤ 32
