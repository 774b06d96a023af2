-- A world in which verbs are counted, and what is kept beside it.
use Rattle.std.specs.Prelude.{ℕ, ◌+◌, ◌≤◌, ◌≡◌, Bool, true, false, List, length, slice_index_or}
use Rattle.machine_world.specs.Events.{happens}
use Rattle.machine_world.specs.World.{World, client_at, first_world, is_registered, is_stopped}
use Rattle.machine_world.specs.declared.events.Event.{Event}
use Rattle.machine_world.specs.declared.events.Event.TheVariants as event
use Rattle.region_view.specs.Sizes.{Sizes}
use Rattle.script_meaning.specs.Lines.{Ran}
use Rattle.sim_meaning.specs.Driver.{awaits_recovery, returned_in}
use Rattle.sim_meaning.specs.Summary.{verbs_at, verbs_in}
use Rattle.sim_run.specs.declared.takers.Taker.{Taker}
use Rattle.sim_run.specs.declared.takers.Taker.TheVariants as taker

-- a world, and how many verbs were taken up to it
pub record Counted : Type 0 where
  pub world : World
  pub verbs : ℕ

abbrev pub first_counted : Sizes → Counted
first_counted sizes = record { world = first_world sizes; verbs = 0 }

-- what an event makes of both
abbrev pub after_event : Counted → Event → Counted
after_event before event = record { world = happens before.world event; verbs = before.verbs + verbs_at before.world event }

-- what is carried out, with its verbs
abbrev pub counts : Counted → Ran → Counted
counts before ran = record { world = ran.world; verbs = before.verbs + verbs_in before.world ran.events }

-- one verb of such a taker
abbrev pub event_of : Taker → Event
event_of (taker.Client client) = event.Step client
event_of taker.Master = event.Work

-- events that change nothing of what is kept
abbrev pub leaves_counts : Event → Bool
leaves_counts (event.Lose node) = true
leaves_counts (event.Choose task) = true
leaves_counts (event.Step client) = false
leaves_counts (event.Late client) = false
leaves_counts event.Work = false
leaves_counts event.Register = false
leaves_counts (event.Invoke client call) = false
leaves_counts (event.Stop client) = false
leaves_counts (event.Fill node word) = false

-- no client awaits its recovery
abbrev pub NoneAwaits : World → Type 0
NoneAwaits world = (client : ℕ) → awaits_recovery world client ≡ false

-- What is kept beside a world: how many verbs were taken and calls have returned, which are no more than there were events;
-- how many calls each client has made; that only registered clients are stopped; and whether one may await its recovery.
pub record IsCounted (world : World) (verbs returned : ℕ) (made : List ℕ) (awaits : Bool) : Type 0 where
  pub few : verbs ≤ world.events
  pub ended : returned ≡ returned_in world
  pub returns : returned ≤ world.events
  pub numbers : (client : ℕ) → slice_index_or made client 0 ≡ (client_at world client).number
  pub enough : length world.clients ≤ length made
  pub stopped : (client : ℕ) → is_stopped world client ≡ true → is_registered world client ≡ true
  pub recovered : awaits ≡ false → NoneAwaits world
