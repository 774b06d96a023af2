-- What the opening of a view makes of the past: which slots have another deciding word, and whose calls have won by it.
use Rattle.std.specs.Prelude.{◌≡◌, ℕ, ◌+◌, ◌-◌, ◌*◌, ◌<◌, ◌≤◌, ◌⊎◌, Bool, false, not, ◌&&◌, ◌==◌, if◌then◌else◌, List, [], ◌∷◌, length, map, slice_get, slice_index_or, All, Option, Some, None}
use Rattle.std.specs.List.{flat_map}
use Rattle.std.specs.Option.{option_and_then}
use Rattle.machine.specs.Client.{fresh_of, is_idle, own_object}
use Rattle.machine.specs.ObjectNames.{IsObject}
use Rattle.machine.specs.Places.{control}
use Rattle.machine.specs.Stage.{Client}
use Rattle.machine_world.specs.Ledger.{Caller, caller_of, with_decision}
use Rattle.machine_world.specs.Readings.{is_in_stock}
use Rattle.machine_world.specs.Standing.{node_sizes}
use Rattle.machine_world.specs.World.{Ledger, World, first_ledger, first_master, is_among, nobody}
use Rattle.region_view.specs.Control.{EpochWord}
use Rattle.region_view.specs.Sizes.{Sizes}
use Rattle.verb_words.specs.declared.verbs.Verb.{Verb}
use Rattle.verb_words.specs.declared.verbs.Verb.TheVariants.{Read, Write, Swap, Add}
use Rattle.world_ledger.specs.Kept.{HasDecisionRoom, HasEntryRoom, Kept, with_taking_of}

-- the world as far as the opening of a view reads it
abbrev pub opening_world : Sizes → List (List ℕ) → List Client → List ℕ → ℕ → World
opening_world sizes nodes clients settled events = record {
  shape = sizes;
  nodes = nodes;
  clients = nobody sizes ∷ clients;
  master = record first_master { settled = settled };
  stopped = [];
  trace = [];
  ledger = first_ledger sizes;
  events = events;
}

-- What is known before.

-- the verb writes the epoch word
abbrev pub WritesEpoch : Verb → Type 0
WritesEpoch (Write place word) = place ≡ control EpochWord
WritesEpoch (Read place) = ⊥
WritesEpoch (Swap place expect fresh) = ⊥
WritesEpoch (Add place more) = ⊥

-- inside a call a client has no object yet, or one of the pool
abbrev pub HasOwnObject : Sizes → Client → Type 0
HasOwnObject sizes client = is_idle client ≡ false → (client.object ≡ 0) ⊎ IsObject sizes (own_object client)

-- a client has the number of its place, and such an object
pub record IsInPlace (sizes : Sizes) (number : ℕ) (client : Client) : Type 0 where
  pub own : client.client ≡ number
  pub object : HasOwnObject sizes client

abbrev pub AreInPlace : Sizes → List Client → Type 0
AreInPlace sizes clients =
    (place : ℕ) → place < length clients → IsInPlace sizes (place + 1) (slice_index_or clients place (nobody sizes))

-- the nodes have all of their words, each slot has its decisions, and each client is in its place
pub record CanOpen (sizes : Sizes) (nodes : List (List ℕ)) (clients : List Client) (ledger : Ledger) : Type 0 where
  pub words : map length nodes ≡ node_sizes sizes
  pub slots : length ledger.decided ≡ 24 * sizes.groups
  pub in_place : AreInPlace sizes clients

-- Slots that have another deciding word.

-- a slot, the word that decided before, and the call whose word decides now, if there is one
pub record Change : Type 0 where
  pub slot : ℕ
  pub replaced : ℕ
  pub caller : Option Caller

abbrev pub change_at : (ℕ → ℕ) → (ℕ → ℕ) → (ℕ → Option Caller) → ℕ → List Change
change_at before now caller slot =
    if before slot == now slot
    then []
    else record { slot = slot; replaced = before slot; caller = caller (now slot) } ∷ []

-- the changes of some slots, by the words that decided before and that decide now, and the callers of the words
abbrev pub changes_of : (ℕ → ℕ) → (ℕ → ℕ) → (ℕ → Option Caller) → List ℕ → List Change
changes_of before now caller slots = flat_map (change_at before now caller) slots

-- the changes are decided at one event, one after the other
abbrev pub with_changes : Sizes → ℕ → List Change → Ledger → Ledger
with_changes sizes event [] ledger = ledger
with_changes sizes event (change ∷ changes) ledger =
    with_changes sizes event changes (with_decision sizes event change.slot change.replaced change.caller ledger)

-- the slots rise, from this one on
abbrev pub AreRising : ℕ → List Change → Type 0
AreRising least [] = Unit {0}
AreRising least (change ∷ changes) = (least ≤ change.slot) × AreRising (change.slot + 1) changes

abbrev pub AreBelow : ℕ → List Change → Type 0
AreBelow end changes = All (λ change. change.slot < end) changes

abbrev pub HasDecisionRooms : Kept → List Change → Type 0
HasDecisionRooms kept changes = All (λ change. HasDecisionRoom kept change.slot) changes

-- there is room for an entry and a decision of each change
pub record HasRoomFor (kept : Kept) (changes : List Change) : Type 0 where
  pub entries : HasEntryRoom kept (length changes)
  pub decisions : HasDecisionRooms kept changes

-- Calls.

-- whether a client's call is open: it has not returned, and no recovery has settled it
abbrev pub is_open : List ℕ → Client → Bool
is_open settled client = not (is_idle client) && not (is_among client.client settled)

-- the client's call, if it is open and has this word
abbrev pub caller_with : List ℕ → ℕ → Client → Option Caller
caller_with settled word client =
    if is_open settled client && (fresh_of client == word) then Some (caller_of client) else None

-- the same of the client of a number
abbrev pub caller_among : List Client → List ℕ → ℕ → ℕ → Option Caller
caller_among clients settled word number = option_and_then (caller_with settled word) (slice_get clients (number - 1))

-- Objects of calls.

-- whether an open call has chosen an object, and that is in stock
abbrev pub has_stock : Sizes → List (List ℕ) → List ℕ → Client → Bool
has_stock sizes nodes settled client =
    (is_open settled client && not (client.object == 0)) && is_in_stock sizes nodes (own_object client)

-- each client holds its object where that was in stock, by these answers in the order of the clients, and is no longer
abbrev pub with_takings : Sizes → (Client → Bool) → List Client → List Bool → Ledger → Ledger
with_takings sizes is_now [] was ledger = ledger
with_takings sizes is_now (client ∷ clients) [] ledger = ledger
with_takings sizes is_now (client ∷ clients) (was ∷ others) ledger =
    with_takings sizes is_now clients others (with_taking_of sizes client.client client.object was (is_now client) ledger)
