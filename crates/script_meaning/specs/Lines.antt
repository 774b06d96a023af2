-- What a line of a script means: the events that it is, which the world before it decides, the world after them, and the
-- lines that are printed.
use Rattle.std.specs.Prelude.{ℕ, zero, suc, ◌+◌, ◌^◌, Bool, false, ◌==◌, if◌then◌else◌, List, [], ◌∷◌, ◌++◌, length, Option, Some, None}
use Rattle.std.specs.Option.{option_map_or}
use Rattle.machine.specs.declared.client_call.Step.{Step}
use Rattle.machine.specs.declared.client_call.Step.TheVariants as step
use Rattle.machine.specs.declared.joining.Joined.{Joined}
use Rattle.machine.specs.declared.joining.Joined.TheVariants as joined
use Rattle.machine.specs.declared.recovery.Recovering.{Recovering}
use Rattle.machine.specs.declared.recovery.Recovering.TheVariants as recovering
use Rattle.machine.specs.declared.settling.Settled.{Settled}
use Rattle.machine.specs.declared.settling.Settled.TheVariants as settled
use Rattle.machine_world.specs.Calls.{reply_of}
use Rattle.machine_world.specs.Events.{client_bits, comes_to, happens}
use Rattle.machine_world.specs.Refusals.{refusal}
use Rattle.machine_world.specs.World.{Joins, NoTask, Recovers, Settles, TaskState, World, client_at}
use Rattle.machine_world.specs.declared.events.Event.{Event}
use Rattle.machine_world.specs.declared.events.Event.TheVariants as event
use Rattle.machine_world.specs.declared.events.Task.{Task}
use Rattle.machine_world.specs.declared.events.Task.TheVariants as task
use Rattle.machine_world.specs.declared.outcomes.Actor.{Actor}
use Rattle.machine_world.specs.declared.outcomes.Actor.TheVariants as actor
use Rattle.machine_world.specs.declared.outcomes.Happened.{Happened}
use Rattle.machine_world.specs.declared.outcomes.Happened.TheVariants as happened
use Rattle.machine_world.specs.declared.outcomes.Refused.{Refused}
use Rattle.map_model.specs.declared.calls.Call.{Call}
use Rattle.map_model.specs.declared.calls.Call.TheVariants as asks
use Rattle.script_meaning.specs.Shown.{division_lines, dump_lines, history_lines, shown_call, shown_refusal, shown_reply, shown_verb, shown_why}
use Rattle.script_text.specs.declared.out_lines.OutLine.{OutLine}
use Rattle.script_text.specs.declared.out_lines.OutLine.TheVariants as out
use Rattle.script_text.specs.declared.scripts.Line.{Line}
use Rattle.script_text.specs.declared.scripts.Line.TheVariants as line
use Rattle.trace_audit.specs.Told.{call_of}

pub record Ran : Type 0 where
  pub world : World
  pub events : List Event
  pub lines : List OutLine

-- nothing happens, and these lines are printed
abbrev pub prints : World → List OutLine → Ran
prints world lines = record { world = world; events = []; lines = lines }

-- an event happens, and these lines are printed
abbrev pub comes : World → Event → List OutLine → Ran
comes world event lines = record { world = happens world event; events = event ∷ []; lines = lines }

-- what follows, in the world after the first
abbrev pub followed_by : Ran → (World → Ran) → Ran
followed_by first rest = record {
  world = (rest first.world).world;
  events = first.events ++ (rest first.world).events;
  lines = first.lines ++ (rest first.world).lines;
}

-- Refusals.

abbrev pub says_refused : World → Refused → Ran
says_refused world reason = prints world (out.Refused (shown_refusal reason) ∷ [])

-- what is to be done, unless the event is refused: then the reason is printed, and nothing happens
abbrev pub unless_refused : World → Event → Ran → Ran
unless_refused world event does = option_map_or (says_refused world) (refusal world event) does

-- an event and the line for it
abbrev pub once : World → Event → OutLine → Ran
once world event line = unless_refused world event (comes world event (line ∷ []))

-- Verbs.

-- whose verb it is
abbrev pub client_of : Actor → ℕ
client_of (actor.Client client) = client
client_of actor.Master = 0

-- the line by which a call is told of, once it has ended or is not done yet
abbrev pub line_of_step : World → ℕ → Step → Option OutLine
line_of_step world client step.Going = None
line_of_step world client (step.Ended result) =
    Some (out.Ended client (client_at world client).number (shown_reply (reply_of (client_at world client) result)))
line_of_step world client (step.NotYet why) = Some (out.NotYet (Some client) (shown_why why))

abbrev pub line_of_recovery : ℕ → Recovering → Option OutLine
line_of_recovery client recovering.Going = None
line_of_recovery client recovering.Recovered = Some (out.Recovered client)
line_of_recovery client (recovering.NotYet why) = Some (out.NotYet None (shown_why why))

abbrev pub line_of_settling : Settled → Option OutLine
line_of_settling settled.Going = None
line_of_settling (settled.Opened word) = Some (out.Opened word)
line_of_settling (settled.NotYet client begin) = Some (out.Waiting client begin)

abbrev pub line_of_joining : ℕ → Joined → Option OutLine
line_of_joining node joined.Going = None
line_of_joining node joined.Joined = Some (out.Joined node)
line_of_joining node (joined.NotYet why) = Some (out.NotYet None (shown_why why))

-- whom the master recovers, and which node it admits
abbrev pub subject_of : TaskState → ℕ
subject_of NoTask = 0
subject_of (Settles settling) = 0
subject_of (Recovers recovery) = recovery.client
subject_of (Joins joining) = joining.node

-- the line that ends a row of verbs, if what came of a verb is told of
abbrev pub told_line : World → Happened → Option OutLine
told_line world (happened.Stepped seen step) = line_of_step world (client_of seen.actor) step
told_line world (happened.Recovering seen step) = line_of_recovery (subject_of world.master.task) step
told_line world (happened.Settling seen step) = line_of_settling step
told_line world (happened.Joining seen step) = line_of_joining (subject_of world.master.task) step
told_line world happened = None

-- the line for a verb, while verbs are shown
abbrev pub verb_lines : Bool → Happened → List OutLine
verb_lines shows (happened.Stepped seen step) = if shows then shown_verb seen ∷ [] else []
verb_lines shows (happened.Recovering seen step) = if shows then shown_verb seen ∷ [] else []
verb_lines shows (happened.Settling seen step) = if shows then shown_verb seen ∷ [] else []
verb_lines shows (happened.Joining seen step) = if shows then shown_verb seen ∷ [] else []
verb_lines shows happened = []

-- who takes the verbs of such an event
abbrev pub taker_of : Event → Option ℕ
taker_of (event.Step client) = Some client
taker_of (event.Late client) = Some client
taker_of other = None

-- one verb, and then what follows where it is not told of
abbrev pub takes_one : Bool → World → Event → (World → Ran) → Ran
takes_one shows world event goes_on =
    followed_by (comes world event (verb_lines shows (comes_to world event)))
    (λ now. option_map_or (λ told. prints now (told ∷ [])) (told_line world (comes_to world event)) (goes_on now))

-- up to so many verbs, after so many that were taken
unfoldable pub takes : Bool → Event → ℕ → ℕ → World → Ran
takes shows event taken zero world = prints world (out.Took (taker_of event) taken ∷ [])
takes shows event taken (suc left) world = takes_one shows world event (takes shows event (taken + 1) left)

-- a line that goes on takes so many verbs at most
abbrev pub most_verbs : ℕ
most_verbs = 2 ^ 32

-- up to so many verbs, where the first one is not refused
abbrev pub takes_up_to : ℕ → Bool → Event → World → Ran
takes_up_to most shows event world = unless_refused world event (takes shows event 0 most world)

-- Calls.

abbrev pub calls : World → ℕ → Call → Ran
calls world client call =
    comes world (event.Invoke client call) (out.Called client ((client_at world client).number + 1) (shown_call call) ∷ [])

abbrev pub only_calls : World → ℕ → Call → Ran
only_calls world client call = unless_refused world (event.Invoke client call) (calls world client call)

-- the call, and its verbs
abbrev pub makes : Bool → World → ℕ → Call → Ran
makes shows world client call =
    unless_refused world (event.Invoke client call) (followed_by (calls world client call) (takes_up_to most_verbs shows (event.Step client)))

-- Tasks.

-- the task is chosen, and takes its verbs
abbrev pub works_on : Bool → World → Task → Ran
works_on shows world task =
    unless_refused world (event.Choose task) (followed_by (comes world (event.Choose task) []) (takes_up_to most_verbs shows event.Work))

-- whether a settling is under way that was chosen when just these clients were stopped
abbrev pub is_settling : World → TaskState → Bool
is_settling world NoTask = false
is_settling world (Settles settling) = settling.stopped == client_bits world.stopped
is_settling world (Recovers recovery) = false
is_settling world (Joins joining) = false

abbrev pub settles : Bool → World → Ran
settles shows world =
    if is_settling world world.master.task
    then takes_up_to most_verbs shows event.Work world
    else works_on shows world task.Settle

-- All lines.

abbrev pub meaning : Bool → World → Line → Ran
meaning shows world line.Register = once world event.Register (out.Client (length world.clients))
meaning shows world (line.Put client key value) = makes shows world client (asks.Put key value)
meaning shows world (line.Get client key) = makes shows world client (asks.Get key)
meaning shows world (line.Delete client key) = makes shows world client (asks.Delete key)
meaning shows world (line.Call client call) = only_calls world client (call_of call)
meaning shows world (line.Step client count) = takes_up_to count shows (event.Step client) world
meaning shows world (line.Go client) = takes_up_to most_verbs shows (event.Step client) world
meaning shows world (line.Late client) = takes_up_to 1 shows (event.Late client) world
meaning shows world (line.Stop client) = once world (event.Stop client) (out.Stopped client)
meaning shows world (line.Lose node) = once world (event.Lose node) (out.Lost node)
meaning shows world (line.Fill node word) = once world (event.Fill node word) (out.Filled node)
meaning shows world line.Settle = settles shows world
meaning shows world (line.Recover client) = works_on shows world (task.Recover client)
meaning shows world (line.Join node) = works_on shows world (task.Join node)
meaning shows world line.TaskSettle = once world (event.Choose task.Settle) out.TaskSettle
meaning shows world (line.TaskRecover client) = once world (event.Choose (task.Recover client)) (out.TaskRecover client)
meaning shows world (line.TaskJoin node) = once world (event.Choose (task.Join node)) (out.TaskJoin node)
meaning shows world (line.Work count) = takes_up_to count shows event.Work world
meaning shows world (line.Verbs on) = prints world []
meaning shows world line.Dump = prints world (dump_lines world)
meaning shows world line.Count = prints world (division_lines world)
meaning shows world line.History = prints world (history_lines world)

-- whether verbs are shown after the line
abbrev pub shows_after : Bool → Line → Bool
shows_after shows (line.Verbs on) = on
shows_after shows other = shows

-- how many verbs the line may take
abbrev pub verbs_at_most : Line → ℕ
verbs_at_most (line.Step client count) = count
verbs_at_most (line.Work count) = count
verbs_at_most other = most_verbs
