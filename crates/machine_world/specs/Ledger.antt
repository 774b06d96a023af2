-- How calls come into the history, and who holds objects.
use Rattle.std.specs.Prelude.{ℕ, ◌+◌, ◌-◌, ◌*◌, Bool, true, false, not, ◌&&◌, ◌||◌, ◌==◌, nat_lt, if◌then◌else◌, List, [], ◌∷◌, ◌++◌, length, map, slice_get, slice_index_or, slice_set, Option, Some, None}
use Rattle.std.specs.List.{range_with_len}
use Rattle.std.specs.Option.{option_and_then, option_map_or}
use Rattle.machine.specs.declared.client_call.Outcome.{Outcome}
use Rattle.machine.specs.declared.client_call.Outcome.TheVariants as outcome
use Rattle.machine.specs.declared.client_call.Step.{Step}
use Rattle.machine.specs.declared.client_call.Step.TheVariants as step
use Rattle.machine.specs.Client.{fresh_of, own_object}
use Rattle.machine.specs.KeySearch.{is_at_slot}
use Rattle.machine.specs.ObjectNames.{Object, object_in}
use Rattle.machine.specs.Places.{object_word}
use Rattle.machine.specs.SlotWrite as slots
use Rattle.machine.specs.SlotWrite.{SlotWrite}
use Rattle.machine.specs.Stage.{Client, Stage, Seek, Find, WriteSlot}
use Rattle.machine_world.specs.Calls.{call_of, reply_of}
use Rattle.machine_world.specs.Readings.{deciding_word, has_returned, is_in_stock, is_unfinished, unit_index, word_in_force}
use Rattle.machine_world.specs.World.{Decided, Entered, Ledger, Point, World, client_at}
use Rattle.map_model.specs.declared.calls.Call.{Call}
use Rattle.map_model.specs.declared.calls.Reply.TheVariants as reply
use Rattle.map_model.specs.declared.entries.Entry.{Entry}
use Rattle.object_form.specs.declared.links.Link.{Link}
use Rattle.object_form.specs.Link.{link_in}
use Rattle.region_view.specs.Sizes.{Sizes}
use Rattle.verb_words.specs.declared.verbs.Answer.{Answer}
use Rattle.verb_words.specs.declared.verbs.Answer.TheVariants.{Word, Done, Lost}

-- Holders.

abbrev pub with_holder : Sizes → Ledger → ℕ → ℕ → Ledger
with_holder sizes ledger pointer client = record ledger { holders = slice_set ledger.holders (unit_index sizes pointer) client }

-- whether the object's bit was set on the primary, and is no longer
abbrev pub is_taken : Sizes → List (List ℕ) → List (List ℕ) → Object → Bool
is_taken sizes before now object = is_in_stock sizes before object && not (is_in_stock sizes now object)

-- a client holds the object that its call has chosen once the object is out of stock
abbrev pub with_taking : Sizes → List (List ℕ) → List (List ℕ) → Client → Ledger → Ledger
with_taking sizes before now client ledger =
    if not (client.object == 0) && is_taken sizes before now (own_object client)
    then with_holder sizes ledger client.object client.client
    else ledger

-- Decisions.

-- a call by its client and its number
pub record Caller : Type 0 where
  pub client : ℕ
  pub number : ℕ
  pub call : Call

abbrev pub caller_of : Client → Caller
caller_of client = record { client = client.client; number = client.number; call = call_of client }

-- the rank of a call whose word has become deciding: it stands behind all that it has beaten
abbrev pub winner_rank : ℕ
winner_rank = 4294967295

-- the call is entered as done, at the event at which its word has become deciding
abbrev pub with_done : ℕ → ℕ → Caller → Ledger → Ledger
with_done event slot caller ledger = record ledger {
  entries = ledger.entries ++ record {
    client = caller.client;
    number = caller.number;
    call = caller.call;
    reply = reply.Done;
    at = record { event = event; slot = slot; rank = winner_rank };
  } ∷ [];
}

-- its client holds the object that its word has replaced
abbrev pub with_replaced : Sizes → ℕ → Caller → Ledger → Ledger
with_replaced sizes word caller ledger =
    option_map_or (λ object. with_holder sizes ledger object.pointer caller.client) (object_in sizes word) ledger

abbrev pub with_caller : Sizes → ℕ → ℕ → ℕ → Option Caller → Ledger → Ledger
with_caller sizes event slot word None ledger = ledger
with_caller sizes event slot word (Some caller) ledger = with_replaced sizes word caller (with_done event slot caller ledger)

abbrev pub decided_at : Ledger → ℕ → List Decided
decided_at ledger slot = slice_index_or ledger.decided slot []

-- a word of the slot has become deciding in place of another: that of the caller's call, if there is one
abbrev pub with_decision : Sizes → ℕ → ℕ → ℕ → Option Caller → Ledger → Ledger
with_decision sizes event slot word caller ledger =
    with_caller sizes event slot word caller (record ledger {
      decided = slice_set ledger.decided slot (decided_at ledger slot ++ record { event = event; beaten = 0 } ∷ []);
    })

-- The final swap of a slot write.

-- the write that puts its word on the primary next
abbrev pub final_at : slots.Phase → SlotWrite → Option SlotWrite
final_at slots.Final write = Some write
final_at phase write = None

abbrev pub final_of : Stage → Option SlotWrite
final_of (WriteSlot write) = final_at write.phase write
final_of stage = None

-- whether the slot's deciding word was another one, and is now this
abbrev pub is_decided : Sizes → List (List ℕ) → List (List ℕ) → ℕ → ℕ → Bool
is_decided sizes before now slot fresh =
    not (deciding_word sizes before slot == fresh) && (deciding_word sizes now slot == fresh)

abbrev pub after_final : Sizes → List (List ℕ) → List (List ℕ) → ℕ → Caller → Ledger → SlotWrite → Ledger
after_final sizes before now event caller ledger write =
    if is_decided sizes before now write.slot write.fresh
    then with_decision sizes event write.slot (deciding_word sizes before write.slot) (Some caller) ledger
    else ledger

-- after a verb of a caller, at which its slot write, if it was about to, has put its word on the primary
abbrev pub with_final : Sizes → List (List ℕ) → List (List ℕ) → ℕ → Caller → Option SlotWrite → Ledger → Ledger
with_final sizes before now event caller write ledger = option_map_or (after_final sizes before now event caller ledger) write ledger

-- Reads of slots.

-- whether the next verb of a search reads a slot
abbrev pub reads_slot : Stage → Bool
reads_slot (Seek key_search) = is_at_slot key_search.phase
reads_slot (Find key_search) = is_at_slot key_search.phase
reads_slot stage = false

abbrev pub is_word : Answer → Bool
is_word (Word found) = true
is_word Done = false
is_word Lost = false

abbrev pub with_read : ℕ → Client → Answer → Ledger → Ledger
with_read event client answer ledger =
    if reads_slot client.stage && is_word answer then record ledger { reads = slice_set ledger.reads client.client event } else ledger

-- Returns.

abbrev pub at_event : ℕ → Point
at_event event = record { event = event; slot = 0; rank = 0 }

abbrev pub entered : Client → Outcome → Point → Entered
entered client result at =
    record { client = client.client; number = client.number; call = call_of client; reply = reply_of client result; at = at }

abbrev pub with_entry : Client → Outcome → Point → Ledger → Ledger
with_entry client result at ledger = record ledger { entries = ledger.entries ++ entered client result at ∷ [] }

-- a call that ended in its first search stands at its last read of a slot
abbrev pub with_search : Client → Outcome → Ledger → Ledger
with_search client result ledger = with_entry client result (at_event (slice_index_or ledger.reads client.client 0)) ledger

-- one more call is beaten at this version of the slot
abbrev pub with_beaten : ℕ → ℕ → Decided → Ledger → Ledger
with_beaten slot version decided ledger = record ledger {
  decided = slice_set ledger.decided slot (slice_set (decided_at ledger slot) (version - 1) (record decided { beaten = decided.beaten + 1 }));
}

-- a beaten call stands before the one whose word has become deciding with its version, behind those beaten there before;
-- where no word has had the version, it stands at its return
abbrev pub with_loss : Client → Outcome → ℕ → ℕ × ℕ → Ledger → Ledger
with_loss client result event at ledger =
    option_map_or
    (λ decided. with_beaten at.0 at.1 decided (with_entry client result (record { event = decided.event; slot = at.0; rank = decided.beaten }) ledger))
    (slice_get (decided_at ledger at.0) (at.1 - 1))
    (with_entry client result (at_event event) ledger)

-- a call that is done ended in its first search, or was beaten, or has won and is entered already
abbrev pub with_return_done : Client → ℕ → Ledger → Ledger
with_return_done client event ledger =
    if client.object == 0
    then with_search client outcome.Done ledger
    else option_map_or (λ at. with_loss client outcome.Done event at ledger) client.beaten ledger

abbrev pub with_outcome : Client → Outcome → ℕ → Ledger → Ledger
with_outcome client outcome.Done event ledger = with_return_done client event ledger
with_outcome client outcome.Value event ledger = with_search client outcome.Value ledger
with_outcome client outcome.Absent event ledger = with_search client outcome.Absent ledger
with_outcome client outcome.Full event ledger = with_entry client outcome.Full (at_event event) ledger
with_outcome client (outcome.NoSpace class awaited begin) event ledger =
    with_entry client (outcome.NoSpace class awaited begin) (at_event event) ledger

abbrev pub with_return : Client → Step → ℕ → Ledger → Ledger
with_return client (step.Ended result) event ledger = with_outcome client result event ledger
with_return client step.Going event ledger = ledger
with_return client (step.NotYet reason) event ledger = ledger

-- The opening of a view.

-- the call whose word has become deciding: that of the client that the object's link names, if it is unfinished and has the
-- word
abbrev pub has_word : World → ℕ → ℕ → Bool
has_word world word client = is_unfinished world client && (fresh_of (client_at world client) == word)

abbrev pub linked_caller : World → ℕ → Link → Option Caller
linked_caller world word link = if has_word world word link.client then Some (caller_of (client_at world link.client)) else None

abbrev pub caller_in : World → List (List ℕ) → ℕ → Option Caller
caller_in world now word =
    option_and_then
    (λ object. option_and_then (linked_caller world word) (link_in (word_in_force world.shape now (object_word object.pointer 0))))
    (object_in world.shape word)

abbrev pub with_opened_slot : World → List (List ℕ) → Ledger → ℕ → Ledger
with_opened_slot world now ledger slot =
    if deciding_word world.shape world.nodes slot == deciding_word world.shape now slot
    then ledger
    else with_decision world.shape world.events slot (deciding_word world.shape world.nodes slot)
    (caller_in world now (deciding_word world.shape now slot)) ledger

abbrev pub with_opened_slots : World → List (List ℕ) → Ledger → List ℕ → Ledger
with_opened_slots world now ledger [] = ledger
with_opened_slots world now ledger (slot ∷ slots) = with_opened_slots world now (with_opened_slot world now ledger slot) slots

abbrev pub with_opened_client : World → List (List ℕ) → Ledger → ℕ → Ledger
with_opened_client world now ledger client =
    if is_unfinished world client then with_taking world.shape world.nodes now (client_at world client) ledger else ledger

abbrev pub with_opened_clients : World → List (List ℕ) → Ledger → List ℕ → Ledger
with_opened_clients world now ledger [] = ledger
with_opened_clients world now ledger (client ∷ clients) =
    with_opened_clients world now (with_opened_client world now ledger client) clients

-- a view is opened: slot by slot another word may decide, and objects may be out of stock
unfoldable pub with_opening : World → List (List ℕ) → Ledger → Ledger
with_opening world now ledger =
    with_opened_clients world now (with_opened_slots world now ledger (range_with_len 0 (24 * world.shape.groups)))
    (range_with_len 0 (length world.clients))

-- The history.

-- whether a point is before another: by event, then slot, then rank
abbrev pub is_before : Point → Point → Bool
is_before one other =
    nat_lt one.event other.event
    || ((one.event == other.event)
    && (nat_lt one.slot other.slot || ((one.slot == other.slot) && nat_lt one.rank other.rank)))

abbrev pub inserted : Entered → List Entered → List Entered
inserted one [] = one ∷ []
inserted one (other ∷ others) = if is_before one.at other.at then one ∷ other ∷ others else other ∷ inserted one others

-- the calls in the order of their points
abbrev pub in_order : List Entered → List Entered
in_order [] = []
in_order (one ∷ others) = inserted one (in_order others)

abbrev pub entry_of : World → Entered → Entry
entry_of world one =
    record { client = one.client; number = one.number; call = one.call; reply = one.reply; returned = has_returned world one.client one.number }

unfoldable pub history_of : World → List Entry
history_of world = map (entry_of world) (in_order world.ledger.entries)
