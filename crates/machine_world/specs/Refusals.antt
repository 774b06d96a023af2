-- Why an event is refused, each reason in its order.
use Rattle.std.specs.Prelude.{ℕ, ◌+◌, Bool, not, ◌&&◌, ◌==◌, nat_le, if◌then◌else◌, length, find, Option, Some, None}
use Rattle.std.specs.List.{list_any, range_with_len}
use Rattle.std.specs.Option.{option_map_or}
use Rattle.machine.specs.declared.client_call.Before.{Before}
use Rattle.machine.specs.declared.client_call.Before.TheVariants as before
use Rattle.machine.specs.Client as calls
use Rattle.machine.specs.Client.{is_idle, refusal as refusal_of_call}
use Rattle.machine_world.specs.Calls.{key_of, value_of}
use Rattle.machine_world.specs.Readings.{epoch_in_force, is_sealed, mask_in_force}
use Rattle.machine_world.specs.World.{Joins, NoTask as no_task, Recovers, Settles, TaskState, World, client_at, is_among, is_registered, is_stopped}
use Rattle.machine_world.specs.declared.events.Event.{Event}
use Rattle.machine_world.specs.declared.events.Event.TheVariants.{Register, Invoke, Step, Late, Stop, Lose, Fill, Choose, Work}
use Rattle.machine_world.specs.declared.events.Task.{Task}
use Rattle.machine_world.specs.declared.events.Task.TheVariants.{Settle, Recover, Join}
use Rattle.machine_world.specs.declared.outcomes.Refused.{Refused}
use Rattle.machine_world.specs.declared.outcomes.Refused.TheVariants as refused
use Rattle.map_model.specs.declared.calls.Call.{Call}
use Rattle.region_view.specs.Placed.{in_mask, placed_nodes}
use Rattle.verb_words.specs.Verb.{place_of}
use Rattle.verb_words.specs.Words.{is_lost}

abbrev pub of_all : World → Option Refused
of_all world =
    if length world.clients == world.shape.clients + 1 then Some (refused.Clients world.shape.clients) else None

-- a client that is to act: it is registered and not stopped, and then the rest
abbrev pub of_client : World → ℕ → Option Refused → Option Refused
of_client world client rest =
    if is_registered world client
    then (if is_stopped world client then Some (refused.Stopped client) else rest)
    else Some (refused.Unknown client)

abbrev pub of_lengths : ℕ → Before → Refused
of_lengths client (before.KeyLength len) = refused.Key len
of_lengths client (before.ValueLength len) = refused.Value len
of_lengths client before.Spent = refused.Spent client

abbrev pub of_call : World → ℕ → Call → Option Refused
of_call world client call =
    if is_idle (client_at world client)
    then option_map_or
    (λ why. Some (of_lengths client why))
    (refusal_of_call (client_at world client) (length (key_of call)) (length (value_of call)))
    None
    else Some (refused.Busy client)

abbrev pub of_step : World → ℕ → Option Refused → Option Refused
of_step world client rest = if is_idle (client_at world client) then Some (refused.Idle client) else rest

-- the node of a client's next verb
abbrev pub next_node : World → ℕ → ℕ
next_node world client = (place_of (calls.next (client_at world client))).node

abbrev pub of_late : World → ℕ → Option Refused
of_late world client =
    if is_lost world.nodes (next_node world client) then None else Some (refused.Live (next_node world client))

-- whether a node is in force: it is in the epoch's mask, is not lost, and is not the one that is about to be lost
abbrev pub stays_live : World → ℕ → ℕ → Bool
stays_live world lost node = in_mask (mask_in_force world.nodes) node && not (is_lost world.nodes node) && not (node == lost)

abbrev pub keeps_none : World → ℕ → ℕ → Bool
keeps_none world lost region = not (list_any (stays_live world lost) (placed_nodes world.shape region))

-- the least region that a loss would leave without a live replica
abbrev pub region_lost : World → ℕ → Option ℕ
region_lost world lost = find (keeps_none world lost) (range_with_len 0 (world.shape.regions + 1))

abbrev pub is_node : World → ℕ → Bool
is_node world node = nat_le 1 node && nat_le node world.shape.nodes

abbrev pub of_loss : World → ℕ → Option Refused
of_loss world node =
    if is_node world node
    then (if is_lost world.nodes node
    then Some (refused.Gone node)
    else option_map_or (λ region. Some (refused.LastLive region)) (region_lost world node) None)
    else Some (refused.Node node)

-- a node that is to be exchanged or admitted: it is lost and outside the view, and then the rest
abbrev pub of_outside : World → ℕ → Option Refused → Option Refused
of_outside world node rest =
    if is_node world node
    then (if is_lost world.nodes node
    then (if in_mask (mask_in_force world.nodes) node then Some (refused.Masked node) else rest)
    else Some (refused.Live node))
    else Some (refused.Node node)

abbrev pub of_seal : World → Option Refused
of_seal world = if is_sealed world.nodes then Some (refused.Sealed (epoch_in_force world.nodes)) else None

abbrev pub of_recovery : World → ℕ → Option Refused
of_recovery world client =
    if is_registered world client
    then (if is_stopped world client
    then (if is_among client world.master.recovered then Some (refused.Recovered client) else None)
    else Some (refused.Running client))
    else Some (refused.Unknown client)

abbrev pub of_task : World → Task → Option Refused
of_task world Settle = None
of_task world (Recover client) = of_recovery world client
of_task world (Join node) = of_outside world node None

abbrev pub of_work : TaskState → Option Refused
of_work no_task = Some refused.NoTask
of_work (Settles settling) = None
of_work (Recovers recovery) = None
of_work (Joins joining) = None

-- why an event is refused, if it is
abbrev pub refusal : World → Event → Option Refused
refusal world Register = of_all world
refusal world (Invoke client call) = of_client world client (of_call world client call)
refusal world (Step client) = of_client world client (of_step world client None)
refusal world (Late client) = of_client world client (of_step world client (of_late world client))
refusal world (Stop client) = of_client world client None
refusal world (Lose node) = of_loss world node
refusal world (Fill node word) = of_outside world node (of_seal world)
refusal world (Choose task) = of_task world task
refusal world Work = of_work world.master.task
