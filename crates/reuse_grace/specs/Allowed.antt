-- Which events may happen in a state.
use Rattle.std.specs.Prelude.{◌≡◌, ◌≢◌, ℕ, ◌<◌, ◌≤◌, true, false, List, [], ◌∷◌}
use Rattle.reuse_grace.specs.Stock.{State, Ripe, Event, Begin, End, Take, GiveBack, Grant, Note, AskAnew, Ask, Look, Ripen, is_inside, happens}

-- no call of a client but the owner has met the object
abbrev pub IsUnmet : State → ℕ → Type 0
IsUnmet state object = (client : ℕ) → client ≢ state.owner → state.met client object ≡ false

-- a client begins a call between calls, and ends the one that it is inside of; only what is ripe is taken,
-- and what is in stock is not given back; granted is only what is in stock and was met by no other call
abbrev pub MayHappen : State → Event → Type 0
MayHappen state (Begin client) = (0 < client) × (client ≤ state.clients) × (is_inside state client ≡ false)
MayHappen state (End client) = is_inside state client ≡ true
MayHappen state (Take object) = state.marks object ≡ Ripe
MayHappen state (GiveBack object) = state.stock object ≡ false
MayHappen state (Grant object) = (state.stock object ≡ true) × IsUnmet state object
MayHappen state (Note object) = Unit {0}
MayHappen state AskAnew = Unit {0}
MayHappen state Ask = Unit {0}
MayHappen state Look = Unit {0}
MayHappen state Ripen = Unit {0}

-- each of the events may happen when it does
abbrev pub IsAllowed : State → List Event → Type 0
IsAllowed state [] = Unit {0}
IsAllowed state (event ∷ events) = MayHappen state event × IsAllowed (happens state event) events
