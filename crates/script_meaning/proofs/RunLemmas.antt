-- A line's world is the one after its events.
use Rattle.std.proofs.Common.{◌≡◌, ℕ, zero, suc, ◌+◌, Bool, true, false, List, [], ◌∷◌, ◌++◌, length, Option, Some, None, if◌then◌else◌, refl, sym, ap, ◌∙◌}
use Rattle.std.specs.Option.{option_map_or}
use Rattle.machine_world.proofs.RunLemmas.{run_from-append}
use Rattle.machine_world.specs.Events.{comes_to}
use Rattle.machine_world.specs.Refusals.{refusal}
use Rattle.machine_world.specs.Runs.{run, run_from}
use Rattle.machine_world.specs.World.{World, first_world}
use Rattle.machine_world.specs.declared.events.Event.{Event}
use Rattle.machine_world.specs.declared.events.Event.TheVariants as event
use Rattle.machine_world.specs.declared.events.Task.{Task}
use Rattle.machine_world.specs.declared.events.Task.TheVariants as task
use Rattle.machine_world.specs.declared.outcomes.Refused.{Refused}
use Rattle.map_model.specs.declared.calls.Call.{Call}
use Rattle.map_model.specs.declared.calls.Call.TheVariants as asks
use Rattle.script_meaning.specs.Lines.{Ran, calls, comes, followed_by, is_settling, makes, meaning, most_verbs, once, only_calls, prints, says_refused, settles, shows_after, takes, takes_one, takes_up_to, told_line, unless_refused, verb_lines, works_on}
use Rattle.script_meaning.specs.Scripts.{run_of, runs, sizes_of}
use Rattle.script_meaning.specs.Shown.{division_lines, dump_lines, history_lines}
use Rattle.script_text.specs.declared.out_lines.OutLine.{OutLine}
use Rattle.script_text.specs.declared.out_lines.OutLine.TheVariants as out
use Rattle.script_text.specs.declared.scripts.Line.{Line}
use Rattle.script_text.specs.declared.scripts.Line.TheVariants as line
use Rattle.script_text.specs.declared.scripts.Script.{Script}
use Rattle.trace_audit.specs.Told.{call_of}

-- the world of a run is the one after its events
abbrev pub IsRun : World → Ran → Type 0
IsRun world ran = ran.world ≡ run_from world ran.events

printed : (world : World) (lines : List OutLine) → IsRun world (prints world lines)
unfolding run_from
printed world lines = refl

came : (world : World) (event : Event) (lines : List OutLine) → IsRun world (comes world event lines)
unfolding run_from
came world event lines = refl

followed : (world : World) (first : Ran) (rest : World → Ran) → IsRun world first → ((now : World) → IsRun now (rest now)) → IsRun world (followed_by first rest)
followed world first rest is after =
    after first.world ∙ ap (λ now. run_from now (rest first.world).events) is ∙ sym (run_from-append world first.events (rest first.world).events)

unless : (world : World) (reason : Option Refused) (does : Ran) → IsRun world does → IsRun world (option_map_or (says_refused world) reason does)
unless world None does is = is
unless world (Some reason) does is = printed world ((says_refused world reason).lines)

unless_refused-run : (world : World) (event : Event) (does : Ran) → IsRun world does → IsRun world (unless_refused world event does)
unless_refused-run world event does is = unless world (refusal world event) does is

once-run : (world : World) (event : Event) (line : OutLine) → IsRun world (once world event line)
once-run world event line = unless_refused-run world event (comes world event (line ∷ [])) (came world event (line ∷ []))

or_told : (now : World) (told : Option OutLine) (goes_on : Ran) → IsRun now goes_on → IsRun now (option_map_or (λ line. prints now (line ∷ [])) told goes_on)
or_told now None goes_on is = is
or_told now (Some told) goes_on is = printed now (told ∷ [])

takes_one-run : (shows : Bool) (world : World) (event : Event) (goes_on : World → Ran) → ((now : World) → IsRun now (goes_on now)) → IsRun world (takes_one shows world event goes_on)
takes_one-run shows world event goes_on is =
    followed world (comes world event (verb_lines shows (comes_to world event)))
    (λ now. option_map_or (λ told. prints now (told ∷ [])) (told_line world (comes_to world event)) (goes_on now))
    (came world event (verb_lines shows (comes_to world event)))
    (λ now. or_told now (told_line world (comes_to world event)) (goes_on now) (is now))

takes-run : (shows : Bool) (event : Event) (taken left : ℕ) (world : World) → IsRun world (takes shows event taken left world)
unfolding takes
takes-run shows event taken zero world = printed world ((takes shows event taken zero world).lines)
takes-run shows event taken (suc left) world = takes_one-run shows world event (takes shows event (taken + 1) left) (takes-run shows event (taken + 1) left)

takes_up_to-run : (most : ℕ) (shows : Bool) (event : Event) (world : World) → IsRun world (takes_up_to most shows event world)
takes_up_to-run most shows event world = unless_refused-run world event (takes shows event 0 most world) (takes-run shows event 0 most world)

makes-run : (shows : Bool) (world : World) (client : ℕ) (call : Call) → IsRun world (makes shows world client call)
makes-run shows world client call =
    unless_refused-run world (event.Invoke client call) (followed_by (calls world client call) (takes_up_to most_verbs shows (event.Step client)))
    (followed world (calls world client call) (takes_up_to most_verbs shows (event.Step client)) (came world (event.Invoke client call) ((calls world client call).lines))
    (takes_up_to-run most_verbs shows (event.Step client)))

works_on-run : (shows : Bool) (world : World) (task : Task) → IsRun world (works_on shows world task)
works_on-run shows world task =
    unless_refused-run world (event.Choose task) (followed_by (comes world (event.Choose task) []) (takes_up_to most_verbs shows event.Work))
    (followed world (comes world (event.Choose task) []) (takes_up_to most_verbs shows event.Work) (came world (event.Choose task) [])
    (takes_up_to-run most_verbs shows event.Work))

settles-run : (shows : Bool) (world : World) → IsRun world (settles shows world)
settles-run shows world = cases (is_settling world world.master.task)
  where
    cases : (under_way : Bool) → IsRun world (if under_way then takes_up_to most_verbs shows event.Work world else works_on shows world task.Settle)
    cases true = takes_up_to-run most_verbs shows event.Work world
    cases false = works_on-run shows world task.Settle

only_calls-run : (world : World) (client : ℕ) (call : Call) → IsRun world (only_calls world client call)
only_calls-run world client call = unless_refused-run world (event.Invoke client call) (calls world client call) (came world (event.Invoke client call) ((calls world client call).lines))

pub meaning-run : (shows : Bool) (world : World) (line : Line) → IsRun world (meaning shows world line)
meaning-run shows world line.Register = once-run world event.Register (out.Client (length world.clients))
meaning-run shows world (line.Put client key value) = makes-run shows world client (asks.Put key value)
meaning-run shows world (line.Get client key) = makes-run shows world client (asks.Get key)
meaning-run shows world (line.Delete client key) = makes-run shows world client (asks.Delete key)
meaning-run shows world (line.Call client call) = only_calls-run world client (call_of call)
meaning-run shows world (line.Step client count) = takes_up_to-run count shows (event.Step client) world
meaning-run shows world (line.Go client) = takes_up_to-run most_verbs shows (event.Step client) world
meaning-run shows world (line.Late client) = takes_up_to-run 1 shows (event.Late client) world
meaning-run shows world (line.Stop client) = once-run world (event.Stop client) (out.Stopped client)
meaning-run shows world (line.Lose node) = once-run world (event.Lose node) (out.Lost node)
meaning-run shows world (line.Fill node word) = once-run world (event.Fill node word) (out.Filled node)
meaning-run shows world line.Settle = settles-run shows world
meaning-run shows world (line.Recover client) = works_on-run shows world (task.Recover client)
meaning-run shows world (line.Join node) = works_on-run shows world (task.Join node)
meaning-run shows world line.TaskSettle = once-run world (event.Choose task.Settle) out.TaskSettle
meaning-run shows world (line.TaskRecover client) = once-run world (event.Choose (task.Recover client)) (out.TaskRecover client)
meaning-run shows world (line.TaskJoin node) = once-run world (event.Choose (task.Join node)) (out.TaskJoin node)
meaning-run shows world (line.Work count) = takes_up_to-run count shows event.Work world
meaning-run shows world (line.Verbs on) = printed world []
meaning-run shows world line.Dump = printed world (dump_lines world)
meaning-run shows world line.Count = printed world (division_lines world)
meaning-run shows world line.History = printed world (history_lines world)

runs-run : (lines : List Line) (shows : Bool) (world : World) → IsRun world (runs lines shows world)
unfolding runs
runs-run [] shows world = printed world (history_lines world ++ out.End ∷ [])
runs-run (line ∷ lines) shows world =
    followed world (meaning shows world line) (runs lines (shows_after shows line)) (meaning-run shows world line) (runs-run lines (shows_after shows line))

pub script-run : (script : Script) → (run_of script).world ≡ run (sizes_of script.shape) (run_of script).events
unfolding run
script-run script = runs-run script.lines.items false (first_world (sizes_of script.shape))
