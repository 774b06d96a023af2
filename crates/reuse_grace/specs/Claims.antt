-- What holds of each event: what is taken was met by no other call that still runs.
use Rattle.std.specs.Prelude.{◌≡◌, ℕ, List, [], ◌∷◌, true}
use Rattle.reuse_grace.specs.Stock.{State, Event, Take, happens}
use Rattle.reuse_grace.specs.Allowed.{IsUnmet}

-- what holds of an event
pub record Holds (state : State) (event : Event) : Type 0 where
  -- an object that is taken is in stock, and no call of another client has met it
  pub stocked : (object : ℕ) → event ≡ Take object → state.stock object ≡ true
  pub unmet : (object : ℕ) → event ≡ Take object → IsUnmet state object

-- it holds of each of the events
abbrev pub HoldsAlong : State → List Event → Type 0
HoldsAlong state [] = Unit {0}
HoldsAlong state (event ∷ events) = Holds state event × HoldsAlong (happens state event) events
