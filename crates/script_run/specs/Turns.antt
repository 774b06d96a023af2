-- The verbs of a line: who takes them, and what is printed of one.
use Rattle.std.specs.Prelude.{ℕ, ◌-◌, ◌≤◌, Bool, List, [], ◌∷◌, ◌++◌, length, slice_get, Option, Some, None}
use Rattle.std.specs.Option.{option_map_or}
use Rattle.machine.specs.declared.client_call.Step.{Step}
use Rattle.machine.specs.declared.client_call.Step.TheVariants as step
use Rattle.machine_world.specs.Events.{comes_to}
use Rattle.machine_world.specs.World.{World}
use Rattle.machine_world.specs.declared.events.Event.{Event}
use Rattle.machine_world.specs.declared.events.Event.TheVariants as event
use Rattle.machine_world.specs.declared.events.Task.{Task}
use Rattle.machine_world.specs.declared.events.Task.TheVariants as task
use Rattle.machine_world.specs.declared.outcomes.Happened.{Happened}
use Rattle.machine_world.specs.declared.outcomes.Happened.TheVariants as happened
use Rattle.map_model.specs.Trace as trace
use Rattle.map_model.specs.Trace.{Moment}
use Rattle.script_meaning.specs.Lines.{client_of, line_of_joining, line_of_recovery, line_of_settling, told_line, verb_lines}
use Rattle.script_meaning.specs.Shown.{shown_reply, shown_why}
use Rattle.script_run.specs.declared.verbs.Taker.{Taker}
use Rattle.script_run.specs.declared.verbs.Taker.TheVariants as taker
use Rattle.script_text.specs.declared.out_lines.OutLine.{OutLine}
use Rattle.script_text.specs.declared.out_lines.OutLine.TheVariants as out

-- one verb of such a taker
abbrev pub event_of : Taker → Event
event_of (taker.Client client) = event.Step client
event_of (taker.Late client) = event.Late client
event_of taker.Master = event.Work

-- a late verb is one alone
abbrev pub LastsFor : Taker → ℕ → Type 0
LastsFor (taker.Client client) most = Unit {0}
LastsFor (taker.Late client) most = most ≤ 1
LastsFor taker.Master most = Unit {0}

-- whom a task recovers, or which node it admits
abbrev pub subject_in : Option Task → ℕ
subject_in None = 0
subject_in (Some task.Settle) = 0
subject_in (Some (task.Recover client)) = client
subject_in (Some (task.Join node)) = node

-- the line of a return
abbrev pub ended_of : ℕ → Moment → Option OutLine
ended_of client (trace.Returned owner number reply) = Some (out.Ended client number (shown_reply reply))
ended_of client (trace.Invoked owner number call) = None
ended_of client (trace.Stopped owner) = None

-- the line of the return that a trace ends with
abbrev pub ended_by : ℕ → List Moment → Option OutLine
ended_by client moments = option_map_or (ended_of client) (slice_get moments (length moments - 1)) None

abbrev pub told_of_step : ℕ → Step → List Moment → Option OutLine
told_of_step client step.Going moments = None
told_of_step client (step.Ended result) moments = ended_by client moments
told_of_step client (step.NotYet why) moments = Some (out.NotYet (Some client) (shown_why why))

-- the line that ends a row of verbs, by the subject of the task that there was and the moments up to now
abbrev pub told_by : ℕ → Happened → List Moment → Option OutLine
told_by subject (happened.Stepped seen step) moments = told_of_step (client_of seen.actor) step moments
told_by subject (happened.Recovering seen step) moments = line_of_recovery subject step
told_by subject (happened.Settling seen step) moments = line_of_settling step
told_by subject (happened.Joining seen step) moments = line_of_joining subject step
told_by subject (happened.Registered client) moments = None
told_by subject (happened.Invoked number) moments = None
told_by subject happened.Stopped moments = None
told_by subject happened.Lost moments = None
told_by subject happened.Filled moments = None
told_by subject happened.Chosen moments = None

abbrev pub or_nothing : Option OutLine → List OutLine
or_nothing told = option_map_or (λ line. line ∷ []) told []

-- what is printed of one verb: the verb, where verbs are shown, and what it is told of
abbrev pub verb_told : Bool → World → Event → List OutLine
verb_told shows world event = verb_lines shows (comes_to world event) ++ or_nothing (told_line world (comes_to world event))

-- the number of a new client or of a new call
abbrev pub number_in : Happened → ℕ
number_in (happened.Registered number) = number
number_in (happened.Invoked number) = number
number_in (happened.Stepped seen step) = 0
number_in happened.Stopped = 0
number_in happened.Lost = 0
number_in happened.Filled = 0
number_in happened.Chosen = 0
number_in (happened.Recovering seen step) = 0
number_in (happened.Settling seen step) = 0
number_in (happened.Joining seen step) = 0
