-- Runs of the world, as examples: the first put of the only client of a small pool, and a put whose client stops at its last
-- swap.
use Rattle.std.specs.Prelude.{ℕ, true, false, List, [], ◌∷◌, ◌++◌, replicate, take}
use Rattle.machine.specs.ObjectNames.{Object}
use Rattle.machine_world.specs.declared.events.Event.{Event}
use Rattle.machine_world.specs.declared.events.Event.TheVariants.{Choose, Lose, Register, Invoke, Step, Stop, Work}
use Rattle.machine_world.specs.declared.events.Task.TheVariants.{Recover, Settle}
use Rattle.machine_world.specs.declared.parts.Division.{Division}
use Rattle.map_model.specs.declared.calls.Call.TheVariants.{Get, Put}
use Rattle.map_model.specs.declared.calls.Reply.TheVariants.{Done, Value}
use Rattle.map_model.specs.declared.entries.Entry.{Entry}
use Rattle.map_model.specs.Trace.{Moment, Invoked, Returned}
use Rattle.region_view.specs.Sizes.{Sizes}

abbrev pub one_of_each : Sizes
one_of_each = record { nodes = 1; replicas = 1; regions = 1; blocks = 1; groups = 1; clients = 1; calls = 10 }

-- the client is registered, puts the value `1` at the key `a`, and takes its 18 verbs
abbrev pub first_put : List Event
first_put = Register ∷ Invoke 1 (Put (97 ∷ []) (49 ∷ [])) ∷ replicate 18 (Step 1)

abbrev pub first_put_trace : List Moment
first_put_trace = Invoked 1 1 (Put (97 ∷ []) (49 ∷ [])) ∷ Returned 1 1 Done ∷ []

abbrev pub first_put_history : List Entry
first_put_history = record { client = 1; number = 1; call = Put (97 ∷ []) (49 ∷ []); reply = Done; returned = true } ∷ []

-- one block is owned; of its 64 objects one is present, and the others are in stock
abbrev pub first_put_division : Division
first_put_division = record { unused = 0; owned = 1; awaiting = 0; released = 0; stock = 63; present = 1; held = 0 }

abbrev pub two_clients : Sizes
two_clients = record { nodes = 3; replicas = 3; regions = 1; blocks = 2; groups = 1; clients = 2; calls = 10 }

-- client 1 stops where its word stands on every backup of the slot and the last swap is missing; client 2 puts at the same
-- key and waits; the master recovers client 1; client 2 ends its put, and gets the key
abbrev pub stopped_put : List Event
stopped_put =
    Register ∷ Register ∷ Invoke 1 (Put (97 ∷ []) (49 ∷ [])) ∷ replicate 36 (Step 1)
    ++ Stop 1 ∷ Invoke 2 (Put (97 ∷ []) (50 ∷ [])) ∷ replicate 39 (Step 2)
    ++ Choose (Recover 1) ∷ replicate 29 Work
    ++ replicate 8 (Step 2)
    ++ Invoke 2 (Get (97 ∷ [])) ∷ replicate 7 (Step 2)

-- the put of client 2 is beaten by that of client 1, so it stands before it
abbrev pub stopped_put_history : List Entry
stopped_put_history =
    record { client = 2; number = 1; call = Put (97 ∷ []) (50 ∷ []); reply = Done; returned = true }
    ∷ record { client = 1; number = 1; call = Put (97 ∷ []) (49 ∷ []); reply = Done; returned = false }
    ∷ record { client = 2; number = 2; call = Get (97 ∷ []); reply = Value (49 ∷ []); returned = true }
    ∷ []

-- the block of client 1 is released
abbrev pub stopped_put_division : Division
stopped_put_division = record { unused = 0; owned = 1; awaiting = 0; released = 1; stock = 127; present = 1; held = 0 }

-- two puts at one key, whose swaps of the slot's backups fall between one another: each has one backup, and the put of
-- client 1 wins
abbrev pub crossed_puts : List Event
crossed_puts =
    Register ∷ Register ∷ Invoke 1 (Put (97 ∷ []) (49 ∷ [])) ∷ replicate 35 (Step 1)
    ++ Invoke 2 (Put (97 ∷ []) (50 ∷ [])) ∷ replicate 36 (Step 2)
    ++ Step 1 ∷ Step 2 ∷ Step 2 ∷ Step 1 ∷ Step 2 ∷ replicate 4 (Step 1)
    ++ replicate 8 (Step 2)
    ++ Invoke 1 (Get (97 ∷ [])) ∷ replicate 7 (Step 1)

abbrev pub crossed_puts_history : List Entry
crossed_puts_history =
    record { client = 2; number = 1; call = Put (97 ∷ []) (50 ∷ []); reply = Done; returned = true }
    ∷ record { client = 1; number = 1; call = Put (97 ∷ []) (49 ∷ []); reply = Done; returned = true }
    ∷ record { client = 1; number = 2; call = Get (97 ∷ []); reply = Value (49 ∷ []); returned = true }
    ∷ []

abbrev pub three_nodes : Sizes
three_nodes = record { nodes = 3; replicas = 3; regions = 1; blocks = 1; groups = 1; clients = 1; calls = 10 }

-- the slot's primary is lost before the last swap of a put reaches it; the pool is settled without it, and the put goes on
abbrev pub lost_primary : List Event
lost_primary =
    Register ∷ Invoke 1 (Put (97 ∷ []) (49 ∷ [])) ∷ replicate 37 (Step 1)
    ++ Lose 1 ∷ Step 1 ∷ Choose Settle ∷ replicate 4 Work
    ++ replicate 3 (Step 1)
    ++ replicate 1382 Work
    ++ replicate 3 (Step 1)
    ++ Invoke 1 (Get (97 ∷ [])) ∷ replicate 7 (Step 1)

abbrev pub lost_primary_history : List Entry
lost_primary_history =
    record { client = 1; number = 1; call = Put (97 ∷ []) (49 ∷ []); reply = Done; returned = true }
    ∷ record { client = 1; number = 2; call = Get (97 ∷ []); reply = Value (49 ∷ []); returned = true }
    ∷ []

-- the words that each put has put on one backup first
abbrev pub crossed_words : List ℕ
crossed_words = 12610360431615148048 ∷ 12610360431615148112 ∷ []

-- before the last swap of the put of client 1, and after it
abbrev pub crossed_before : List Event
crossed_before = take 82 crossed_puts

abbrev pub crossed_after : List Event
crossed_after = take 83 crossed_puts

-- the object of the put of client 1
abbrev pub crossed_object : Object
crossed_object = record { pointer = 1048592; class = 0 }
