-- Two traces of a put by client 1 and a get of its key by client 2.
use Rattle.std.specs.Prelude.{ℕ, true, false, List, [], ◌∷◌}
use Rattle.map_model.specs.declared.calls.Call.TheVariants.{Get, Put}
use Rattle.map_model.specs.declared.calls.Reply.TheVariants.{Done, Value, Absent}
use Rattle.map_model.specs.declared.entries.Entry.{Entry}
use Rattle.map_model.specs.Trace.{Moment, Invoked, Returned, Stopped}

-- the put is done before the get is made, and the get finds nothing
abbrev pub stale_read : List ℕ → List ℕ → List Moment
stale_read key value = Invoked 1 1 (Put key value) ∷ Returned 1 1 Done ∷ Invoked 2 1 (Get key) ∷ Returned 2 1 Absent ∷ []

-- the put never returns, since its client stops, and the get finds its value
abbrev pub open_put : List ℕ → List ℕ → List Moment
open_put key value = Invoked 1 1 (Put key value) ∷ Invoked 2 1 (Get key) ∷ Returned 2 1 (Value value) ∷ Stopped 1 ∷ []

-- the calls of the second trace in the order in which a map gives the replies
abbrev pub put_then_get : List ℕ → List ℕ → List Entry
put_then_get key value =
    record { client = 1; number = 1; call = Put key value; reply = Done; returned = false }
    ∷ record { client = 2; number = 1; call = Get key; reply = Value value; returned = true }
    ∷ []
