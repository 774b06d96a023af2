-- How a return comes into the history, from what the client says of it.
use Rattle.std.specs.Prelude.{ℕ, ◌-◌, ◌==◌, if◌then◌else◌, [], ◌∷◌, ◌++◌, slice_get, slice_index_or}
use Rattle.std.specs.Option.{option_map_or}
use Rattle.machine.specs.declared.client_call.Outcome.{Outcome}
use Rattle.machine.specs.declared.client_call.Outcome.TheVariants as outcome
use Rattle.machine.specs.Stage.{Client}
use Rattle.machine_world.specs.Calls.{reply_of}
use Rattle.machine_world.specs.Ledger.{at_event, caller_of, decided_at, with_beaten}
use Rattle.machine_world.specs.World.{Ledger, Point}
use Rattle.world_ledger.specs.declared.entries.Returned.{Returned}

-- what is told of a client's call that returns so
abbrev pub returned_of : Client → Outcome → Returned
returned_of client result =
    record { caller = caller_of client; reply = reply_of client result; object = client.object; beaten = client.beaten }

abbrev pub with_entry_of : Returned → Point → Ledger → Ledger
with_entry_of returned at ledger = record ledger {
  entries = ledger.entries ++ record {
    client = returned.caller.client;
    number = returned.caller.number;
    call = returned.caller.call;
    reply = returned.reply;
    at = at;
  } ∷ [];
}

-- the client's last read of a slot
abbrev pub last_read : Returned → Ledger → Point
last_read returned ledger = at_event (slice_index_or ledger.reads returned.caller.client 0)

abbrev pub with_search_of : Returned → Ledger → Ledger
with_search_of returned ledger = with_entry_of returned (last_read returned ledger) ledger

-- directly before the winner of this slot and version, or at the return where there is none
abbrev pub with_loss_of : Returned → ℕ → ℕ × ℕ → Ledger → Ledger
with_loss_of returned event at ledger =
    option_map_or
    (λ decided. with_beaten at.0 at.1 decided (with_entry_of returned (record { event = decided.event; slot = at.0; rank = decided.beaten }) ledger))
    (slice_get (decided_at ledger at.0) (at.1 - 1))
    (with_entry_of returned (at_event event) ledger)

-- a call that is done ended in its first search, or was beaten, or has won and is entered already
abbrev pub with_done_of : Returned → ℕ → Ledger → Ledger
with_done_of returned event ledger =
    if returned.object == 0
    then with_search_of returned ledger
    else option_map_or (λ at. with_loss_of returned event at ledger) returned.beaten ledger

abbrev pub with_returned : Returned → Outcome → ℕ → Ledger → Ledger
with_returned returned outcome.Done event ledger = with_done_of returned event ledger
with_returned returned outcome.Value event ledger = with_search_of returned ledger
with_returned returned outcome.Absent event ledger = with_search_of returned ledger
with_returned returned outcome.Full event ledger = with_entry_of returned (at_event event) ledger
with_returned returned (outcome.NoSpace class client begin) event ledger = with_entry_of returned (at_event event) ledger
