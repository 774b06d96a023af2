-- The state of the world.
use Rattle.std.specs.Prelude.{ℕ, ◌*◌, Bool, ◌&&◌, ◌==◌, nat_lt, List, [], ◌∷◌, length, replicate, slice_index_or}
use Rattle.std.specs.List.{list_any}
use Rattle.machine.specs.Joining.{Joining}
use Rattle.machine.specs.RecoveryStage.{Recovery}
use Rattle.machine.specs.Settling.{Settling}
use Rattle.machine.specs.Stage.{Client, first_client}
use Rattle.map_model.specs.declared.calls.Call.{Call}
use Rattle.map_model.specs.declared.calls.Reply.{Reply}
use Rattle.map_model.specs.Trace.{Moment}
use Rattle.region_view.specs.Opening.{first_words_of}
use Rattle.region_view.specs.Sizes.{Sizes}

-- where a call stands in the history: the event at which it takes effect, and among the calls of one event the slot and
-- the rank
pub record Point : Type 0 where
  pub event : ℕ
  pub slot : ℕ
  pub rank : ℕ

-- a call that is in the history
pub record Entered : Type 0 where
  pub client : ℕ
  pub number : ℕ
  pub call : Call
  pub reply : Reply
  pub at : Point

-- a slot's word became deciding at this event, and so many beaten calls were entered before it
pub record Decided : Type 0 where
  pub event : ℕ
  pub beaten : ℕ

-- What is kept of the past: the calls in the history; for each slot when its words became deciding, in order; for each unit
-- of the data regions who took, or last replaced, the object that begins there; and for each client the event at which it
-- last read a slot in a search
pub record Ledger : Type 0 where
  pub entries : List Entered
  pub decided : List (List Decided)
  pub holders : List ℕ
  pub reads : List ℕ

-- what the master works on
pub data TaskState : Type 0 where
  NoTask : TaskState
  Settles : Settling → TaskState
  Recovers : Recovery → TaskState
  Joins : Joining → TaskState

-- the master: its task, the clients of whom a recovery has won the last call, those whose last call is settled, since a
-- recovery has found or made their begin word even, and those that are recovered
pub record Master : Type 0 where
  pub task : TaskState
  pub won : List ℕ
  pub settled : List ℕ
  pub recovered : List ℕ

-- the world; client c is at place c of the clients, and nobody at place 0
pub record World : Type 0 where
  pub shape : Sizes
  pub nodes : List (List ℕ)
  pub clients : List Client
  pub master : Master
  pub stopped : List ℕ
  pub trace : List Moment
  pub ledger : Ledger
  pub events : ℕ

abbrev pub unit_count : Sizes → ℕ
unit_count sizes = sizes.regions * (64 * sizes.blocks)

abbrev pub first_ledger : Sizes → Ledger
first_ledger sizes = record {
  entries = [];
  decided = replicate (24 * sizes.groups) [];
  holders = replicate (unit_count sizes) 1;
  reads = 0 ∷ [];
}

abbrev pub first_master : Master
first_master = record { task = NoTask; won = []; settled = []; recovered = [] }

abbrev pub nobody : Sizes → Client
nobody sizes = first_client 0 sizes

-- the world as it opens
abbrev pub first_world : Sizes → World
first_world sizes = record {
  shape = sizes;
  nodes = first_words_of sizes;
  clients = nobody sizes ∷ [];
  master = first_master;
  stopped = [];
  trace = [];
  ledger = first_ledger sizes;
  events = 0;
}

-- whether a number is in a list
abbrev pub is_among : ℕ → List ℕ → Bool
is_among number numbers = list_any (λ other. other == number) numbers

-- the client of a number
unfoldable pub client_at : World → ℕ → Client
client_at world client = slice_index_or world.clients client (nobody world.shape)

abbrev pub is_registered : World → ℕ → Bool
is_registered world client = nat_lt 0 client && nat_lt client (length world.clients)

abbrev pub is_stopped : World → ℕ → Bool
is_stopped world client = is_among client world.stopped
