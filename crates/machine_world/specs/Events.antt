-- What an event that is not refused makes of the world, and what it comes to.
use Rattle.std.specs.Prelude.{ℕ, ◌+◌, ◌-◌, ◌%◌, ◌^◌, Bool, true, false, not, ◌==◌, if◌then◌else◌, List, [], ◌∷◌, ◌++◌, length, map, replicate, sum, slice_set, Option, Some, None}
use Rattle.std.specs.Option.{option_map_or}
use Rattle.machine.specs.declared.client_call.Step.{Step}
use Rattle.machine.specs.declared.client_call.Step.TheVariants as step
use Rattle.machine.specs.declared.joining.Joined.{Joined}
use Rattle.machine.specs.declared.joining.Joined.TheVariants as joined
use Rattle.machine.specs.declared.recovery.Recovering.{Recovering}
use Rattle.machine.specs.declared.recovery.Recovering.TheVariants as recovering
use Rattle.machine.specs.declared.settling.Settled.{Settled}
use Rattle.machine.specs.declared.settling.Settled.TheVariants as settled
use Rattle.machine.specs.Client.{after, invoked, next, told}
use Rattle.machine.specs.Joining as joinings
use Rattle.machine.specs.Joining.{Joining, joining_of}
use Rattle.machine.specs.Places.{control}
use Rattle.machine.specs.Recovery as recoveries
use Rattle.machine.specs.RecoveryStage as stages
use Rattle.machine.specs.RecoveryStage.{Recovery, recovery_of}
use Rattle.machine.specs.Settling as settlings
use Rattle.machine.specs.Settling.{Settling, settling_of}
use Rattle.machine.specs.SlotWrite.{SlotWrite}
use Rattle.machine.specs.Stage.{Client, first_client}
use Rattle.machine_world.specs.Calls.{key_of, operation_of, reply_of, value_of}
use Rattle.machine_world.specs.Ledger.{caller_of, final_at, final_of, with_final, with_opening, with_read, with_return, with_taking}
use Rattle.machine_world.specs.Refusals.{refusal}
use Rattle.machine_world.specs.World.{Joins, Ledger, Master, NoTask, Recovers, Settles, TaskState, World, client_at, is_among}
use Rattle.machine_world.specs.declared.events.Event.{Event}
use Rattle.machine_world.specs.declared.events.Event.TheVariants as event
use Rattle.machine_world.specs.declared.events.Task.{Task}
use Rattle.machine_world.specs.declared.events.Task.TheVariants.{Settle, Recover, Join}
use Rattle.machine_world.specs.declared.outcomes.Actor.{Actor}
use Rattle.machine_world.specs.declared.outcomes.Actor.TheVariants as actor
use Rattle.machine_world.specs.declared.outcomes.Happened.{Happened}
use Rattle.machine_world.specs.declared.outcomes.Happened.TheVariants as happened
use Rattle.machine_world.specs.declared.outcomes.Seen.{Seen}
use Rattle.map_model.specs.declared.calls.Call.{Call}
use Rattle.map_model.specs.Trace.{Moment, Invoked, Returned, Stopped}
use Rattle.region_view.specs.Control.{Status}
use Rattle.verb_words.specs.declared.verbs.Answer.{Answer}
use Rattle.verb_words.specs.declared.verbs.Answer.TheVariants.{Word, Done}
use Rattle.verb_words.specs.declared.verbs.Verb.{Verb}
use Rattle.verb_words.specs.Applied.{answer_to, words_after}
use Rattle.verb_words.specs.Words.{with_word, words_on}

-- Registering, invoking, stopping.

abbrev pub registers : World → World
registers world = record world {
  clients = world.clients ++ first_client (length world.clients) world.shape ∷ [];
  ledger = record world.ledger { reads = world.ledger.reads ++ 0 ∷ [] };
  events = world.events + 1;
}

abbrev pub invokes : World → ℕ → Call → World
invokes world client call = record world {
  clients = slice_set world.clients client (invoked (client_at world client) (operation_of call) (key_of call) (value_of call));
  trace = world.trace ++ Invoked client ((client_at world client).number + 1) call ∷ [];
  events = world.events + 1;
}

abbrev pub stops : World → ℕ → World
stops world client = record world {
  stopped = client ∷ world.stopped;
  trace = world.trace ++ Stopped client ∷ [];
  events = world.events + 1;
}

-- A verb of a client, as it comes or late.

abbrev pub verb_of : World → ℕ → Verb
verb_of world client = next (client_at world client)

abbrev pub answer_of : Bool → World → ℕ → Answer
answer_of late world client = answer_to world.nodes (verb_of world client) (not late)

abbrev pub nodes_after : Bool → World → ℕ → List (List ℕ)
nodes_after late world client = words_after world.nodes (verb_of world client) (not late)

-- what the trace has of a step: a return
abbrev pub moments_of : Client → Step → List Moment
moments_of client (step.Ended result) = Returned client.client client.number (reply_of client result) ∷ []
moments_of client step.Going = []
moments_of client (step.NotYet reason) = []

abbrev pub ledger_after : World → List (List ℕ) → Client → Answer → Step → Ledger
ledger_after world now client answer tells =
    with_return client tells world.events
    (with_taking world.shape world.nodes now client
    (with_final world.shape world.nodes now world.events (caller_of client) (final_of client.stage)
    (with_read world.events client answer world.ledger)))

-- a client that gets this answer, and leaves these words
abbrev pub answered : World → ℕ → Answer → List (List ℕ) → World
answered world client answer now = record world {
  nodes = now;
  clients = slice_set world.clients client (after (client_at world client) answer);
  trace = world.trace ++ moments_of (client_at world client) (told (client_at world client) answer);
  ledger = ledger_after world now (client_at world client) answer (told (client_at world client) answer);
  events = world.events + 1;
}

abbrev pub acts : Bool → World → ℕ → World
acts late world client = answered world client (answer_of late world client) (nodes_after late world client)

-- The outside.

abbrev pub loses : World → ℕ → World
loses world node = record world { nodes = with_word world.nodes (control (Status node)) 1; events = world.events + 1 }

abbrev pub fills : World → ℕ → ℕ → World
fills world node word = record world {
  nodes = slice_set world.nodes node (replicate (length (words_on world.nodes node)) word);
  events = world.events + 1;
}

-- The master.

-- bit c - 1 of a number for each client c of a list
abbrev pub client_bits : List ℕ → ℕ
client_bits clients = sum (map (λ client. 2 ^ (client - 1)) clients)

abbrev pub begun : World → Task → TaskState
begun world Settle = Settles (settling_of world.shape (client_bits world.stopped))
begun world (Recover client) = Recovers (recovery_of client world.shape)
begun world (Join node) = Joins (joining_of world.shape node)

abbrev pub chooses : World → Task → World
chooses world task = record world { master = record world.master { task = begun world task }; events = world.events + 1 }

abbrev pub with_task : Master → TaskState → Master
with_task master task = record master { task = task }

abbrev pub also : ℕ → List ℕ → List ℕ
also number numbers = if is_among number numbers then numbers else number ∷ numbers

abbrev pub also_if : Bool → ℕ → List ℕ → List ℕ
also_if test number numbers = if test then also number numbers else numbers

abbrev pub verb_of_task : TaskState → Option Verb
verb_of_task NoTask = None
verb_of_task (Settles settling) = Some (settlings.next settling)
verb_of_task (Recovers recovery) = Some (recoveries.next recovery)
verb_of_task (Joins joining) = Some (joinings.next joining)

-- after a settling's not yet the task stays
abbrev pub settling_after : Settling → Settled → TaskState
settling_after settling (settled.Opened word) = NoTask
settling_after settling settled.Going = Settles settling
settling_after settling (settled.NotYet client begin) = Settles settling

abbrev pub opens : Settled → Bool
opens (settled.Opened word) = true
opens settled.Going = false
opens (settled.NotYet client begin) = false

abbrev pub recovery_after : Recovery → Recovering → TaskState
recovery_after recovery recovering.Going = Recovers recovery
recovery_after recovery recovering.Recovered = NoTask
recovery_after recovery (recovering.NotYet reason) = NoTask

abbrev pub is_recovered : Recovering → Bool
is_recovered recovering.Recovered = true
is_recovered recovering.Going = false
is_recovered (recovering.NotYet reason) = false

-- a recovery finds the begin word even, or has made it even
abbrev pub settles_call : stages.Stage → Answer → Bool
settles_call stages.ReadBegin (Word found) = found % 2 == 0
settles_call stages.WriteBegin Done = true
settles_call stage answer = false

abbrev pub final_of_recovery : stages.Stage → Option SlotWrite
final_of_recovery (stages.WriteSlot write) = final_at write.phase write
final_of_recovery stage = None

abbrev pub joining_after : Joining → Joined → TaskState
joining_after joining joined.Going = Joins joining
joining_after joining joined.Joined = NoTask
joining_after joining (joined.NotYet reason) = NoTask

-- a settling gets this answer, and leaves these words
abbrev pub works_on_settling : World → Settling → Answer → List (List ℕ) → World
works_on_settling world settling answer now = record world {
  nodes = now;
  master = with_task world.master (settling_after (settlings.turn settling answer).state (settlings.turn settling answer).told);
  ledger = if opens (settlings.turn settling answer).told then with_opening world now world.ledger else world.ledger;
  events = world.events + 1;
}

abbrev pub works_on_recovery : World → Recovery → Answer → List (List ℕ) → World
works_on_recovery world recovery answer now = record world {
  nodes = now;
  master = record {
    task = recovery_after (recoveries.turn recovery answer).state (recoveries.turn recovery answer).told;
    won = also_if (recoveries.turn recovery answer).state.won recovery.client world.master.won;
    settled = also_if (settles_call recovery.stage answer) recovery.client world.master.settled;
    recovered = also_if (is_recovered (recoveries.turn recovery answer).told) recovery.client world.master.recovered;
  };
  ledger =
      with_final world.shape world.nodes now world.events (caller_of (client_at world recovery.client)) (final_of_recovery recovery.stage) world.ledger;
  events = world.events + 1;
}

abbrev pub works_on_joining : World → Joining → Answer → List (List ℕ) → World
works_on_joining world joining answer now = record world {
  nodes = now;
  master = with_task world.master (joining_after (joinings.turn joining answer).state (joinings.turn joining answer).told);
  events = world.events + 1;
}

abbrev pub works_on : World → TaskState → World
works_on world NoTask = world
works_on world (Settles settling) =
    works_on_settling world settling (answer_to world.nodes (settlings.next settling) true) (words_after world.nodes (settlings.next settling) true)
works_on world (Recovers recovery) =
    works_on_recovery world recovery (answer_to world.nodes (recoveries.next recovery) true) (words_after world.nodes (recoveries.next recovery) true)
works_on world (Joins joining) =
    works_on_joining world joining (answer_to world.nodes (joinings.next joining) true) (words_after world.nodes (joinings.next joining) true)

abbrev pub works : World → World
works world = works_on world world.master.task

-- All events.

-- what an event that is not refused makes of the world
abbrev pub occurs : World → Event → World
occurs world event.Register = registers world
occurs world (event.Invoke client call) = invokes world client call
occurs world (event.Step client) = acts false world client
occurs world (event.Late client) = acts true world client
occurs world (event.Stop client) = stops world client
occurs world (event.Lose node) = loses world node
occurs world (event.Fill node word) = fills world node word
occurs world (event.Choose task) = chooses world task
occurs world event.Work = works world

-- a client's verb as an event, as it comes or late
abbrev pub verb_event : Bool → ℕ → Event
verb_event false client = event.Step client
verb_event true client = event.Late client

-- an event that is refused leaves the world as it was
abbrev pub happens : World → Event → World
happens world event = option_map_or (λ reason. world) (refusal world event) (occurs world event)

-- What an event comes to that is not refused.

abbrev pub seen_by : Actor → Verb → Answer → Seen
seen_by by verb answer = record { actor = by; verb = verb; answer = answer }

abbrev pub step_of : Bool → World → ℕ → Happened
step_of late world client =
    happened.Stepped
    (seen_by (actor.Client client) (verb_of world client) (answer_of late world client))
    (told (client_at world client) (answer_of late world client))

abbrev pub work_of : World → TaskState → Happened
work_of world NoTask = happened.Chosen
work_of world (Settles settling) =
    let answer = answer_to world.nodes (settlings.next settling) true in
    happened.Settling (seen_by actor.Master (settlings.next settling) answer) (settlings.turn settling answer).told
work_of world (Recovers recovery) =
    let answer = answer_to world.nodes (recoveries.next recovery) true in
    happened.Recovering (seen_by actor.Master (recoveries.next recovery) answer) (recoveries.turn recovery answer).told
work_of world (Joins joining) =
    let answer = answer_to world.nodes (joinings.next joining) true in
    happened.Joining (seen_by actor.Master (joinings.next joining) answer) (joinings.turn joining answer).told

abbrev pub comes_to : World → Event → Happened
comes_to world event.Register = happened.Registered (length world.clients)
comes_to world (event.Invoke client call) = happened.Invoked ((client_at world client).number + 1)
comes_to world (event.Step client) = step_of false world client
comes_to world (event.Late client) = step_of true world client
comes_to world (event.Stop client) = happened.Stopped
comes_to world (event.Lose node) = happened.Lost
comes_to world (event.Fill node word) = happened.Filled
comes_to world (event.Choose task) = happened.Chosen
comes_to world event.Work = work_of world world.master.task
