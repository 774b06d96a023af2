-- An object that is given back while a call runs that has met it.
use Rattle.std.specs.Prelude.{List, [], ◌∷◌}
use Rattle.reuse_grace.specs.Stock.{Event, Begin, End, Take, GiveBack, Grant, Note, Ask, Look, Ripen}

-- client 2 begins a call while object 7 is out of stock; then the object is given back, and its owner, client 1,
-- notes it, asks both clients, and looks again
abbrev pub given_back : List Event
given_back =
    Grant 7 ∷ Take 7 ∷ Begin 2 ∷ GiveBack 7 ∷ Note 7 ∷ Ask ∷ Ask ∷ Look ∷ Ripen ∷ []

-- the call ends, and the owner looks again
abbrev pub ended : List Event
ended = End 2 ∷ Look ∷ Ripen ∷ Take 7 ∷ []
