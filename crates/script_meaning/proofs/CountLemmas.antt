-- How many events a line is.
use Rattle.std.proofs.Common.{◌≡◌, ℕ, zero, suc, ◌+◌, ◌≤◌, Bool, true, false, [], ◌∷◌, ◌++◌, length, length-append, Option, Some, None, if◌then◌else◌, sym, subst, arith}
use Rattle.std.specs.Option.{option_map_or}
use Rattle.machine_world.specs.Events.{comes_to}
use Rattle.machine_world.specs.Refusals.{refusal}
use Rattle.machine_world.specs.World.{World}
use Rattle.machine_world.specs.declared.events.Event.{Event}
use Rattle.machine_world.specs.declared.events.Event.TheVariants as event
use Rattle.machine_world.specs.declared.events.Task.{Task}
use Rattle.machine_world.specs.declared.events.Task.TheVariants as task
use Rattle.machine_world.specs.declared.outcomes.Refused.{Refused}
use Rattle.map_model.specs.declared.calls.Call.{Call}
use Rattle.map_model.specs.declared.calls.Call.TheVariants as asks
use Rattle.script_meaning.specs.Lines.{Ran, calls, comes, followed_by, is_settling, makes, meaning, most_verbs, once, only_calls, prints, says_refused, settles, takes, takes_one, takes_up_to, told_line, unless_refused, verb_lines, verbs_at_most, works_on}
use Rattle.script_text.specs.declared.out_lines.OutLine.{OutLine}
use Rattle.script_text.specs.declared.out_lines.OutLine.TheVariants as out
use Rattle.script_text.specs.declared.scripts.Line.{Line}
use Rattle.script_text.specs.declared.scripts.Line.TheVariants as line
use Rattle.trace_audit.specs.Told.{call_of}

-- a run of so many events at most
abbrev pub IsWithin : ℕ → Ran → Type 0
IsWithin most ran = length ran.events ≤ most

followed : (first : Ran) (rest : World → Ran) (most : ℕ) → IsWithin 1 first → ((now : World) → IsWithin most (rest now)) → IsWithin (most + 1) (followed_by first rest)
followed first rest most is after =
    let both : length (first.events ++ (rest first.world).events) ≡ length first.events + length (rest first.world).events = length-append first.events (rest first.world).events in
    let few : length first.events ≤ 1 = is in
    let more : length (rest first.world).events ≤ most = after first.world in
    subst (λ count. count ≤ most + 1) (sym both) (omega arith)

unless : (world : World) (reason : Option Refused) (does : Ran) (most : ℕ) → IsWithin most does → IsWithin most (option_map_or (says_refused world) reason does)
unless world None does most is = is
unless world (Some reason) does most is = omega arith

unless_refused-within : (world : World) (event : Event) (does : Ran) (most : ℕ) → IsWithin most does → IsWithin most (unless_refused world event does)
unless_refused-within world event does most is = unless world (refusal world event) does most is

once-within : (world : World) (event : Event) (line : OutLine) (most : ℕ) → IsWithin (most + 1) (once world event line)
once-within world event line most = unless_refused-within world event (comes world event (line ∷ [])) (most + 1) (omega arith)

or_told : (now : World) (told : Option OutLine) (goes_on : Ran) (most : ℕ) → IsWithin most goes_on → IsWithin most (option_map_or (λ line. prints now (line ∷ [])) told goes_on)
or_told now None goes_on most is = is
or_told now (Some told) goes_on most is = omega arith

one_more : (left : ℕ) (ran : Ran) → IsWithin (left + 1) ran → IsWithin (suc left) ran
one_more left ran is = omega arith

takes-within : (shows : Bool) (event : Event) (taken left : ℕ) (world : World) → IsWithin left (takes shows event taken left world)
unfolding takes
takes-within shows event taken zero world = omega arith
takes-within shows event taken (suc left) world =
    one_more left (takes_one shows world event (takes shows event (taken + 1) left))
    (followed (comes world event (verb_lines shows (comes_to world event)))
    (λ now. option_map_or (λ told. prints now (told ∷ [])) (told_line world (comes_to world event)) (takes shows event (taken + 1) left now))
    left (omega arith)
    (λ now. or_told now (told_line world (comes_to world event)) (takes shows event (taken + 1) left now) left (takes-within shows event (taken + 1) left now)))

takes_up_to-within : (most : ℕ) (shows : Bool) (event : Event) (world : World) → IsWithin most (takes_up_to most shows event world)
takes_up_to-within most shows event world = unless_refused-within world event (takes shows event 0 most world) most (takes-within shows event 0 most world)

wider : (most : ℕ) (ran : Ran) → IsWithin most ran → IsWithin (most + 1) ran
wider most ran is = omega arith

takes-wider : (most : ℕ) (shows : Bool) (event : Event) (world : World) → IsWithin (most + 1) (takes_up_to most shows event world)
takes-wider most shows event world = wider most (takes_up_to most shows event world) (takes_up_to-within most shows event world)

makes-within : (shows : Bool) (world : World) (client : ℕ) (call : Call) → IsWithin (most_verbs + 1) (makes shows world client call)
makes-within shows world client call =
    unless_refused-within world (event.Invoke client call) (followed_by (calls world client call) (takes_up_to most_verbs shows (event.Step client))) (most_verbs + 1)
    (followed (calls world client call) (takes_up_to most_verbs shows (event.Step client)) most_verbs (omega arith) (takes_up_to-within most_verbs shows (event.Step client)))

works_on-within : (shows : Bool) (world : World) (task : Task) → IsWithin (most_verbs + 1) (works_on shows world task)
works_on-within shows world task =
    unless_refused-within world (event.Choose task) (followed_by (comes world (event.Choose task) []) (takes_up_to most_verbs shows event.Work)) (most_verbs + 1)
    (followed (comes world (event.Choose task) []) (takes_up_to most_verbs shows event.Work) most_verbs (omega arith) (takes_up_to-within most_verbs shows event.Work))

settles-within : (shows : Bool) (world : World) → IsWithin (most_verbs + 1) (settles shows world)
settles-within shows world = cases (is_settling world world.master.task)
  where
    cases : (under_way : Bool) → IsWithin (most_verbs + 1) (if under_way then takes_up_to most_verbs shows event.Work world else works_on shows world task.Settle)
    cases true = takes-wider most_verbs shows event.Work world
    cases false = works_on-within shows world task.Settle

only_calls-within : (world : World) (client : ℕ) (call : Call) → IsWithin (most_verbs + 1) (only_calls world client call)
only_calls-within world client call = unless_refused-within world (event.Invoke client call) (calls world client call) (most_verbs + 1) (omega arith)

pub meaning-within : (shows : Bool) (world : World) (line : Line) → IsWithin (verbs_at_most line + 1) (meaning shows world line)
meaning-within shows world line.Register = once-within world event.Register (out.Client (length world.clients)) most_verbs
meaning-within shows world (line.Put client key value) = makes-within shows world client (asks.Put key value)
meaning-within shows world (line.Get client key) = makes-within shows world client (asks.Get key)
meaning-within shows world (line.Delete client key) = makes-within shows world client (asks.Delete key)
meaning-within shows world (line.Call client call) = only_calls-within world client (call_of call)
meaning-within shows world (line.Step client count) = takes-wider count shows (event.Step client) world
meaning-within shows world (line.Go client) = takes-wider most_verbs shows (event.Step client) world
meaning-within shows world (line.Late client) = wider-late shows world client
  where
    wider-late : (shows : Bool) (world : World) (client : ℕ) → IsWithin (most_verbs + 1) (takes_up_to 1 shows (event.Late client) world)
    wider-late shows world client = let few : IsWithin 1 (takes_up_to 1 shows (event.Late client) world) = takes_up_to-within 1 shows (event.Late client) world in omega arith
meaning-within shows world (line.Stop client) = once-within world (event.Stop client) (out.Stopped client) most_verbs
meaning-within shows world (line.Lose node) = once-within world (event.Lose node) (out.Lost node) most_verbs
meaning-within shows world (line.Fill node word) = once-within world (event.Fill node word) (out.Filled node) most_verbs
meaning-within shows world line.Settle = settles-within shows world
meaning-within shows world (line.Recover client) = works_on-within shows world (task.Recover client)
meaning-within shows world (line.Join node) = works_on-within shows world (task.Join node)
meaning-within shows world line.TaskSettle = once-within world (event.Choose task.Settle) out.TaskSettle most_verbs
meaning-within shows world (line.TaskRecover client) = once-within world (event.Choose (task.Recover client)) (out.TaskRecover client) most_verbs
meaning-within shows world (line.TaskJoin node) = once-within world (event.Choose (task.Join node)) (out.TaskJoin node) most_verbs
meaning-within shows world (line.Work count) = takes-wider count shows event.Work world
meaning-within shows world (line.Verbs on) = omega arith
meaning-within shows world line.Dump = omega arith
meaning-within shows world line.Count = omega arith
meaning-within shows world line.History = omega arith
