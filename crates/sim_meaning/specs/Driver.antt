-- What a simulation is: a driver takes one turn after the other. In each it draws a word, which says whose turn it is and
-- how many verbs that client takes; it stops clients, loses nodes, and has the master settle and recover. Whatever it does
-- is a line of a script, of which nothing is printed.
use Rattle.std.specs.Prelude.{ℕ, zero, suc, ◌+◌, ◌*◌, ◌/◌, ◌%◌, ◌^◌, Bool, true, false, not, ◌&&◌, ◌||◌, ◌==◌, nat_lt, nat_le, if◌then◌else◌, List, [], ◌∷◌, ◌++◌, count_by, slice_get, Option}
use Rattle.std.specs.List.{list_all, range_with_len}
use Rattle.std.specs.Option.{option_map_or}
use Rattle.machine.specs.Client.{is_idle}
use Rattle.machine_world.specs.World.{Joins, NoTask, Recovers, Settles, TaskState, World, client_at, first_world, is_among, is_stopped}
use Rattle.machine_world.specs.declared.events.Event.{Event}
use Rattle.map_model.specs.Trace.{Moment, Invoked, Returned, Stopped}
use Rattle.map_model.specs.declared.calls.Call.{Call}
use Rattle.rand_pcg.specs.Lcg.{Lcg}
use Rattle.rand_pcg.specs.Pcg.{pcg32}
use Rattle.region_view.specs.Sizes.{Sizes}
use Rattle.script_meaning.specs.Lines.{Ran, meaning, only_calls}
use Rattle.script_text.specs.declared.scripts.Line.{Line}
use Rattle.script_text.specs.declared.scripts.Line.TheVariants as line
use Rattle.sim_meaning.specs.declared.numbers.Numbers.{Numbers}
use Rattle.sim_plan.specs.Made.{plan, seeded}

-- what the driver goes by: the world, the generator of the words that are left, how many nodes it has lost, and whether a
-- settling is under way
pub record Driver : Type 0 where
  pub world : World
  pub generator : Lcg
  pub losses : ℕ
  pub settling : Bool

-- what the driver did: what it goes by now, and the events
pub record Driven : Type 0 where
  pub driver : Driver
  pub events : List Event

abbrev pub rests : Driver → Driven
rests driver = record { driver = driver; events = [] }

-- something is carried out in the driver's world, and nothing is printed of it
abbrev pub does : Driver → Ran → Driven
does driver ran = record { driver = record driver { world = ran.world }; events = ran.events }

-- a line of a script is carried out so
abbrev pub carries_out : Driver → Line → Driven
carries_out driver line = does driver (meaning false driver.world line)

-- what follows, from what the driver goes by after the first
abbrev pub followed_by : Driven → (Driver → Driven) → Driven
followed_by first rest = record {
  driver = (rest first.driver).driver;
  events = first.events ++ (rest first.driver).events;
}

-- Whose turn it is.

-- the client that a word names
abbrev pub client_of : Numbers → ℕ → ℕ
client_of numbers word = 1 + word % numbers.clients

-- an idle client has returned as many calls as it has made
abbrev pub has_returned_all : Numbers → World → ℕ → Bool
has_returned_all numbers world client = is_idle (client_at world client) && ((client_at world client).number == numbers.calls)

-- a client that is stopped, or idle after its last call, is passed over
abbrev pub is_passed_over : Numbers → World → ℕ → Bool
is_passed_over numbers world client = is_stopped world client || has_returned_all numbers world client

-- Its next call.

-- the call of the client's plan that comes after those that it has made
abbrev pub next_call : Numbers → World → ℕ → Option Call
next_call numbers world client = slice_get (plan numbers.seed client numbers.calls) (client_at world client).number

-- an idle client invokes its next call
abbrev pub invokes : Numbers → ℕ → Driver → Driven
invokes numbers client driver =
    if is_idle (client_at driver.world client)
    then option_map_or (λ call. does driver (only_calls driver.world client call)) (next_call numbers driver.world client) (rests driver)
    else rests driver

-- Its verbs.

-- how many verbs the upper half of a word gives: one of 1 to most
abbrev pub verbs_of : ℕ → ℕ → ℕ
verbs_of word most = 1 + word / 2 ^ 16 % most

-- the first clients are to stop, each in the call in the middle of its plan
abbrev pub is_to_stop : Numbers → World → ℕ → Bool
is_to_stop numbers world client = nat_le client numbers.stops && ((client_at world client).number == numbers.calls / 2 + 1)

-- the client takes verbs and stops, whatever came of them
abbrev pub steps_and_stops : ℕ → ℕ → Driver → Driven
steps_and_stops client verbs driver = followed_by (carries_out driver (line.Step client verbs)) (λ now. carries_out now (line.Stop client))

-- a client in a call takes 1 to 8 verbs, and 1 to 64 where it is to stop
abbrev pub steps : Numbers → ℕ → ℕ → Driver → Driven
steps numbers word client driver =
    if is_idle (client_at driver.world client) then rests driver
    else if is_to_stop numbers driver.world client then steps_and_stops client (verbs_of word 64) driver
    else carries_out driver (line.Step client (verbs_of word 8))

-- the turn of a client
abbrev pub acts : Numbers → ℕ → ℕ → Driver → Driven
acts numbers word client driver =
    if is_passed_over numbers driver.world client
    then rests driver
    else followed_by (invokes numbers client driver) (steps numbers word client)

-- The loss of a node.

abbrev pub is_return : Moment → Bool
is_return (Invoked client number call) = false
is_return (Returned client number reply) = true
is_return (Stopped client) = false

-- how many calls have returned
abbrev pub returned_in : World → ℕ
returned_in world = count_by is_return world.trace

-- how many calls have to have returned before the next node is lost: the losses part all calls evenly
abbrev pub calls_before_loss : Numbers → ℕ → ℕ
calls_before_loss numbers losses = (losses + 1) * numbers.clients * numbers.calls / (numbers.losses + 1)

abbrev pub is_loss_due : Numbers → Driver → Bool
is_loss_due numbers driver =
    nat_lt driver.losses numbers.losses
    && not driver.settling
    && nat_le (calls_before_loss numbers driver.losses) (returned_in driver.world)

-- the next node is lost, and a settling is under way
abbrev pub loses : Driver → Driven
loses driver = carries_out (record driver { losses = driver.losses + 1; settling = true }) (line.Lose (driver.losses + 1))

abbrev pub loses_if_due : Numbers → Driver → Driven
loses_if_due numbers driver = if is_loss_due numbers driver then loses driver else rests driver

-- The master.

abbrev pub has_task : TaskState → Bool
has_task NoTask = false
has_task (Settles settling) = true
has_task (Recovers recovery) = true
has_task (Joins joining) = true

-- a settling is over once it has opened a view: then the master has no task, and before that it has the settling
abbrev pub until_opened : Driven → Driven
until_opened done = record {
  driver = record done.driver { settling = has_task done.driver.world.master.task };
  events = done.events;
}

-- the settling begins or goes on
abbrev pub settles : Driver → Driven
settles driver = until_opened (carries_out driver line.Settle)

abbrev pub awaits_recovery : World → ℕ → Bool
awaits_recovery world client = is_stopped world client && not (is_among client world.master.recovered)

abbrev pub recovers : ℕ → Driver → Driven
recovers client driver = if awaits_recovery driver.world client then carries_out driver (line.Recover client) else rests driver

-- each of these clients that awaits its recovery is recovered, one after the other
abbrev pub recovers_each : List ℕ → Driver → Driven
recovers_each [] driver = rests driver
recovers_each (client ∷ clients) driver = followed_by (recovers client driver) (recovers_each clients)

-- all clients, by rising number
abbrev pub clients_of : Numbers → List ℕ
clients_of numbers = range_with_len 1 numbers.clients

-- the master settles, or else recovers
abbrev pub manages : Numbers → Driver → Driven
manages numbers driver = if driver.settling then settles driver else recovers_each (clients_of numbers) driver

-- Turns.

-- the turn of a word: the client that it names acts, a node may be lost, and the master does its work
abbrev pub turn_of : Numbers → ℕ → Driver → Driven
turn_of numbers word driver =
    followed_by (followed_by (acts numbers word (client_of numbers word) driver) (loses_if_due numbers)) (manages numbers)

-- the turn of the next word
abbrev pub turn : Numbers → Driver → Driven
turn numbers driver = turn_of numbers (pcg32 driver.generator).0 (record driver { generator = (pcg32 driver.generator).1 })

-- a client is through once it is recovered, where it is stopped, or else idle after its last call
abbrev pub is_through : Numbers → World → ℕ → Bool
is_through numbers world client =
    if is_stopped world client then is_among client world.master.recovered else has_returned_all numbers world client

-- there is no further turn where all clients are through and no settling is under way
abbrev pub is_over : Numbers → Driver → Bool
is_over numbers driver = not driver.settling && list_all (is_through numbers driver.world) (clients_of numbers)

-- so many turns at most
unfoldable pub turns : Numbers → ℕ → Driver → Driven
turns numbers zero driver = rests driver
turns numbers (suc left) driver = if is_over numbers driver then rests driver else followed_by (turn numbers driver) (turns numbers left)

abbrev pub most_turns : Numbers → ℕ
most_turns numbers = 64 * numbers.clients * numbers.calls + 1000

-- The whole.

-- the driver at the opening of a pool
abbrev pub first_driver : Sizes → Numbers → Driver
first_driver sizes numbers = record { world = first_world sizes; generator = seeded numbers.seed; losses = 0; settling = false }

-- so many clients are registered
unfoldable pub registers : ℕ → Driver → Driven
registers zero driver = rests driver
registers (suc count) driver = followed_by (carries_out driver line.Register) (registers count)

-- on a pool of these sizes all clients are registered, and then the turns are taken
abbrev pub simulated_on : Sizes → Numbers → Driven
simulated_on sizes numbers = followed_by (registers numbers.clients (first_driver sizes numbers)) (turns numbers (most_turns numbers))

-- the pool of a simulation
abbrev pub sizes_of : Numbers → Sizes
sizes_of numbers =
    record { nodes = 3; replicas = 3; regions = 4; blocks = 16; groups = 16; clients = numbers.clients; calls = 16777215 }

abbrev pub simulated : Numbers → Driven
simulated numbers = simulated_on (sizes_of numbers) numbers
