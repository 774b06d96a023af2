-- The world counts no more events than there are, and those of a simulation are few.
use Rattle.std.proofs.Common.{ℕ, ◌+◌, ◌*◌, ◌^◌, ◌<◌, ◌≤◌, List, [], ◌∷◌, length, Option, Some, None, subst, sym, arith}
use Rattle.std.proofs.Math.Nat.{mul-le-mul}
use Rattle.std.specs.Option.{option_map_or}
use Rattle.machine_world.specs.Events.{happens, occurs, works_on}
use Rattle.machine_world.specs.Refusals.{refusal}
use Rattle.machine_world.specs.Runs.{run_from}
use Rattle.machine_world.specs.World.{Joins, NoTask, Recovers, Settles, TaskState, World}
use Rattle.machine_world.specs.declared.events.Event.{Event}
use Rattle.machine_world.specs.declared.events.Event.TheVariants.{Register, Invoke, Step, Late, Stop, Lose, Fill, Choose, Work}
use Rattle.machine_world.specs.declared.outcomes.Refused.{Refused}
use Rattle.script_meaning.specs.Lines.{most_verbs}
use Rattle.sim_meaning.proofs.CountLemmas.{turn-within}
use Rattle.sim_meaning.proofs.RunLemmas.{turn-run}
use Rattle.sim_meaning.specs.Counts.{events_of_turn, most_events}
use Rattle.sim_meaning.specs.Driver.{Driver, most_turns, turn}
use Rattle.sim_meaning.specs.declared.numbers.Numbers.{Numbers}

works_on-counted : (world : World) (task : TaskState) → (works_on world task).events ≤ world.events + 1
works_on-counted world NoTask = omega arith
works_on-counted world (Settles settling) = omega arith
works_on-counted world (Recovers recovery) = omega arith
works_on-counted world (Joins joining) = omega arith

occurs-counted : (world : World) (event : Event) → (occurs world event).events ≤ world.events + 1
occurs-counted world Register = omega arith
occurs-counted world (Invoke client call) = omega arith
occurs-counted world (Step client) = omega arith
occurs-counted world (Late client) = omega arith
occurs-counted world (Stop client) = omega arith
occurs-counted world (Lose node) = omega arith
occurs-counted world (Fill node word) = omega arith
occurs-counted world (Choose task) = omega arith
occurs-counted world Work = works_on-counted world world.master.task

unless-counted : (world now : World) (reason : Option Refused) → now.events ≤ world.events + 1 → (option_map_or (λ why. world) reason now).events ≤ world.events + 1
unless-counted world now None counted = counted
unless-counted world now (Some reason) counted = omega arith

pub happens-counted : (world : World) (event : Event) → (happens world event).events ≤ world.events + 1
happens-counted world event = unless-counted world (occurs world event) (refusal world event) (occurs-counted world event)

pub run_from-counted : (world : World) (events : List Event) → (run_from world events).events ≤ world.events + length events
unfolding run_from
run_from-counted world [] = omega arith
run_from-counted world (event ∷ events) =
    let one : (happens world event).events ≤ world.events + 1 = happens-counted world event in
    let rest : (run_from (happens world event) events).events ≤ (happens world event).events + length events = run_from-counted (happens world event) events in
    omega arith

-- what the world counts after a turn
pub turn-counted : (numbers : Numbers) (driver : Driver) → (turn numbers driver).driver.world.events ≤ driver.world.events + events_of_turn numbers
turn-counted numbers driver =
    subst (λ (world : World). world.events ≤ driver.world.events + events_of_turn numbers) (sym (turn-run numbers driver))
    (within (run_from driver.world (turn numbers driver).events).events driver.world.events (length (turn numbers driver).events) (events_of_turn numbers)
    (run_from-counted driver.world (turn numbers driver).events) (turn-within numbers driver))
  where
    within : (now before events most : ℕ) → now ≤ before + events → events ≤ most → now ≤ before + most
    within now before events most counted few = omega arith

-- 64 clients and 100,000 calls
pub most_events-few : (numbers : Numbers) → numbers.clients ≤ 64 → numbers.clients * numbers.calls ≤ 100000 → most_events numbers < 2 ^ 63
most_events-few numbers few calls =
    let turns : most_turns numbers ≤ 6401000 = turns-few numbers.clients numbers.calls calls in
    let each : events_of_turn numbers ≤ 279172874373 = each-few numbers.clients few in
    let all : most_turns numbers * events_of_turn numbers ≤ 6401000 * 279172874373 = mul-le-mul turns each in
    sum-few numbers.clients (most_turns numbers * events_of_turn numbers) few all
  where
    turns-few : (clients calls : ℕ) → clients * calls ≤ 100000 → 64 * clients * calls + 1000 ≤ 6401000
    turns-few clients calls few = omega arith

    each-few : (clients : ℕ) → clients ≤ 64 → 68 + (1 + clients) * (most_verbs + 1) ≤ 279172874373
    each-few clients few = omega arith

    sum-few : (clients events : ℕ) → clients ≤ 64 → events ≤ 6401000 * 279172874373 → clients + events < 2 ^ 63
    sum-few clients events few all = omega arith
