-- One verb of a line: what is told of it, and what may follow it.
use Rattle.std.proofs.Common.{◌≡◌, ℕ, ◌+◌, ◌-◌, ◌<◌, ◌≤◌, Bool, true, false, ◌&&◌, List, [], ◌∷◌, ◌++◌, length, Option, Some, None, refl, sym, ap, ◌∙◌, arith, length-append, length-set}
use Rattle.std.specs.Prelude.{nat_lt, slice_get}
use Rattle.std.specs.Option.{option_map_or}
use Rattle.std.proofs.Math.Seq.{get_or-append_seam}
use Rattle.std.proofs.lemmas.Bool.Decides.{nat_tests}
use Rattle.std.proofs.lemmas.Option.{slice_get-get_or}
use Rattle.kv_ops.proofs.KeptLemmas.{turn-kept}
use Rattle.kv_ops.specs.Stepping.{is_ended}
use Rattle.machine.specs.Client.{after, is_idle, told}
use Rattle.machine.specs.Joining as joinings
use Rattle.machine.specs.Joining.{Joining}
use Rattle.machine.specs.Recovery as recoveries
use Rattle.machine.specs.RecoveryStage.{Recovery}
use Rattle.machine.specs.Settling as settlings
use Rattle.machine.specs.Settling.{Settling}
use Rattle.machine.specs.declared.client_call.Step.{Step}
use Rattle.machine.specs.declared.client_call.Step.TheVariants as step
use Rattle.machine.specs.declared.joining.Joined.{Joined}
use Rattle.machine.specs.declared.joining.Joined.TheVariants as joined
use Rattle.machine.specs.declared.recovery.Recovering.{Recovering}
use Rattle.machine.specs.declared.recovery.Recovering.TheVariants as recovering
use Rattle.machine.specs.declared.settling.Settled.{Settled}
use Rattle.machine.specs.declared.settling.Settled.TheVariants as settled
use Rattle.machine_world.proofs.EventLemmas.{acts-own, occurred}
use Rattle.machine_world.specs.Events.{acts, answer_of, comes_to, happens, joining_after, moments_of, occurs, recovery_after, settling_after, work_of, works_on}
use Rattle.machine_world.specs.Calls.{reply_of}
use Rattle.machine_world.specs.Refusals.{of_work, refusal}
use Rattle.machine_world.specs.World.{Joins, NoTask, Recovers, Settles, TaskState, World, client_at, is_registered, is_stopped}
use Rattle.machine_world.specs.declared.events.Event.{Event}
use Rattle.machine_world.specs.declared.events.Event.TheVariants as event
use Rattle.machine_world.specs.declared.outcomes.Happened.{Happened}
use Rattle.machine_world.specs.declared.outcomes.Refused.{Refused}
use Rattle.machine_world.specs.declared.outcomes.Refused.TheVariants as refused
use Rattle.map_model.specs.Trace.{Moment, Returned}
use Rattle.script_meaning.specs.Lines.{line_of_joining, line_of_recovery, line_of_settling, line_of_step, subject_of, told_line, verb_lines}
use Rattle.script_run.specs.Turns.{LastsFor, ended_of, event_of, or_nothing, subject_in, told_by, told_of_step, verb_told}
use Rattle.script_run.specs.declared.verbs.Taker.{Taker}
use Rattle.script_run.specs.declared.verbs.Taker.TheVariants as taker
use Rattle.verb_words.specs.Applied.{answer_to}
use Rattle.world_core.specs.Told.{task_in}

-- What is told.

pub subject-same : (task : TaskState) → subject_in (task_in task) ≡ subject_of task
subject-same NoTask = refl
subject-same (Settles settling) = refl
subject-same (Recovers recovery) = refl
subject-same (Joins joining) = refl

last-moment : (moments : List Moment) (moment : Moment) → slice_get (moments ++ moment ∷ []) (length (moments ++ moment ∷ []) - 1) ≡ Some moment
last-moment moments moment =
    let last : length (moments ++ moment ∷ []) - 1 ≡ length moments = omega (arith, length-append moments (moment ∷ [])) in
    ap (slice_get (moments ++ moment ∷ [])) last
    ∙ slice_get-get_or (moments ++ moment ∷ []) (length moments) moment (omega (arith, length-append moments (moment ∷ [])))
    ∙ ap (λ found. Some found) (get_or-append_seam moments moment [] moment)

told-step : (world : World) (client : ℕ) (tells : Step) → told_of_step client tells (world.trace ++ moments_of (client_at world client) tells) ≡ line_of_step world client tells
told-step world client step.Going = refl
told-step world client (step.Ended result) =
    let returned = Returned (client_at world client).client (client_at world client).number (reply_of (client_at world client) result) in
    ap (λ found. option_map_or (ended_of client) found None) (last-moment world.trace returned)
told-step world client (step.NotYet why) = refl

told-work : (world : World) (task : TaskState) (moments : List Moment) → told_by (subject_of world.master.task) (work_of world task) moments ≡ told_line world (work_of world task)
told-work world NoTask moments = refl
told-work world (Settles settling) moments = refl
told-work world (Recovers recovery) moments = refl
told-work world (Joins joining) moments = refl

told-acts : (late : Bool) (world : World) (client : ℕ) → told_of_step client (told (client_at world client) (answer_of late world client)) (acts late world client).trace ≡ line_of_step world client (told (client_at world client) (answer_of late world client))
told-acts late world client = told-step world client (told (client_at world client) (answer_of late world client))

-- what is told after the verb is told of it
pub told-same : (by : Taker) (world : World) → refusal world (event_of by) ≡ None
    → told_by (subject_in (task_in world.master.task)) (comes_to world (event_of by)) (happens world (event_of by)).trace ≡ told_line world (comes_to world (event_of by))
told-same (taker.Client client) world none = rw (occurred world (event.Step client) none) (told-acts false world client)
told-same (taker.Late client) world none = rw (occurred world (event.Late client) none) (told-acts true world client)
told-same taker.Master world none = rw (subject-same world.master.task) (told-work world world.master.task (happens world event.Work).trace)

-- what is told by what the code has at hand
pub turn-told : (by : Taker) (world now : World) (event : Event) (subject : ℕ) (happened : Happened) (moments : List Moment)
    → event ≡ event_of by → refusal world (event_of by) ≡ None → happened ≡ comes_to world event → now ≡ happens world event → subject ≡ subject_in (task_in world.master.task) → moments ≡ now.trace
    → told_by subject happened moments ≡ told_line world (comes_to world (event_of by))
turn-told by world now event subject happened moments is lawful came is_now is_subject told =
    let trace : moments ≡ (happens world (event_of by)).trace = told ∙ ap (λ (w : World). w.trace) is_now ∙ ap (λ e. (happens world e).trace) is in
    let what : happened ≡ comes_to world (event_of by) = came ∙ ap (comes_to world) is in
    ap (λ s. told_by s happened moments) is_subject
    ∙ ap (λ h. told_by (subject_in (task_in world.master.task)) h moments) what
    ∙ ap (told_by (subject_in (task_in world.master.task)) (comes_to world (event_of by))) trace
    ∙ told-same by world lawful

pub turn-lines : (by : Taker) (shows : Bool) (world now : World) (event : Event) (subject : ℕ) (happened : Happened) (moments : List Moment)
    → event ≡ event_of by → refusal world (event_of by) ≡ None → happened ≡ comes_to world event → now ≡ happens world event → subject ≡ subject_in (task_in world.master.task) → moments ≡ now.trace
    → verb_lines shows happened ++ or_nothing (told_by subject happened moments) ≡ verb_told shows world (event_of by)
turn-lines by shows world now event subject happened moments is lawful came is_now is_subject told =
    ap (λ h. verb_lines shows h ++ or_nothing (told_by subject happened moments)) (came ∙ ap (comes_to world) is)
    ∙ ap (λ t. verb_lines shows (comes_to world (event_of by)) ++ or_nothing t) (turn-told by world now event subject happened moments is lawful came is_now is_subject told)

-- What may follow.

going : (world : World) (client : ℕ) (tells : Step) → line_of_step world client tells ≡ None → tells ≡ step.Going
going world client step.Going none = refl
going world client (step.Ended result) none = absurd cc
going world client (step.NotYet why) none = absurd cc

-- a client that may step is registered, not stopped, and inside a call
may-step : (world : World) (client : ℕ) → refusal world (event.Step client) ≡ None → (is_registered world client ≡ true) × (is_stopped world client ≡ false) × (is_idle (client_at world client) ≡ false)
may-step world client none = by (is_registered world client) refl (is_stopped world client) refl (is_idle (client_at world client)) refl
  where
    by : (t : Bool) → is_registered world client ≡ t → (u : Bool) → is_stopped world client ≡ u → (v : Bool) → is_idle (client_at world client) ≡ v
        → (is_registered world client ≡ true) × (is_stopped world client ≡ false) × (is_idle (client_at world client) ≡ false)
    by true known true halted v idle = let bad : Some (refused.Stopped client) ≡ None = sym (rw (known, halted) refl) ∙ none in absurd cc
    by true known false running true idle = let bad : Some (refused.Idle client) ≡ None = sym (rw (known, running, idle) refl) ∙ none in absurd cc
    by true known false running false idle = (known, running, idle)
    by false unknown u halted v idle = let bad : Some (refused.Unknown client) ≡ None = sym (rw unknown refl) ∙ none in absurd cc

steps : (world : World) (client : ℕ) → is_registered world client ≡ true → is_stopped world client ≡ false → is_idle (client_at world client) ≡ false → refusal world (event.Step client) ≡ None
steps world client known running idle = rw (known, running, idle) refl

registered-within : (client count : ℕ) → (nat_lt 0 client && nat_lt client count) ≡ true → client < count
registered-within client count known = grind (arith, nat_tests)

acts-goes : (world : World) (client : ℕ) → refusal world (event.Step client) ≡ None → told (client_at world client) (answer_of false world client) ≡ step.Going
    → refusal (acts false world client) (event.Step client) ≡ None
acts-goes world client none goes =
    let may = may-step world client none in
    let changed = after (client_at world client) (answer_of false world client) in
    let known = ap (λ n. nat_lt 0 client && nat_lt client n) (length-set world.clients client changed) ∙ may.0 in
    let idle : is_idle (client_at (acts false world client) client) ≡ false =
    ap is_idle (acts-own false world client (registered-within client (length world.clients) may.0))
    ∙ (turn-kept (client_at world client) (answer_of false world client)).idle may.2 ∙ ap is_ended goes in
    steps (acts false world client) client known may.1 idle

settling-goes : (settling : Settling) (tells : Settled) → line_of_settling tells ≡ None → of_work (settling_after settling tells) ≡ None
settling-goes settling settled.Going quiet = refl
settling-goes settling (settled.Opened word) quiet = absurd cc
settling-goes settling (settled.NotYet client begin) quiet = absurd cc

recovery-goes : (subject : ℕ) (recovery : Recovery) (tells : Recovering) → line_of_recovery subject tells ≡ None → of_work (recovery_after recovery tells) ≡ None
recovery-goes subject recovery recovering.Going quiet = refl
recovery-goes subject recovery recovering.Recovered quiet = absurd cc
recovery-goes subject recovery (recovering.NotYet why) quiet = absurd cc

joining-goes : (subject : ℕ) (joining : Joining) (tells : Joined) → line_of_joining subject tells ≡ None → of_work (joining_after joining tells) ≡ None
joining-goes subject joining joined.Going quiet = refl
joining-goes subject joining joined.Joined quiet = absurd cc
joining-goes subject joining (joined.NotYet why) quiet = absurd cc

works-goes : (world : World) (task : TaskState) → of_work task ≡ None → told_line world (work_of world task) ≡ None → of_work (works_on world task).master.task ≡ None
works-goes world NoTask none quiet = let bad : Some refused.NoTask ≡ None = none in absurd cc
works-goes world (Settles settling) none quiet = settling-goes (settlings.turn settling (answer_to world.nodes (settlings.next settling) true)).state (settlings.turn settling (answer_to world.nodes (settlings.next settling) true)).told quiet
works-goes world (Recovers recovery) none quiet = recovery-goes (subject_of world.master.task) (recoveries.turn recovery (answer_to world.nodes (recoveries.next recovery) true)).state (recoveries.turn recovery (answer_to world.nodes (recoveries.next recovery) true)).told quiet
works-goes world (Joins joining) none quiet = joining-goes (subject_of world.master.task) (joinings.turn joining (answer_to world.nodes (joinings.next joining) true)).state (joinings.turn joining (answer_to world.nodes (joinings.next joining) true)).told quiet

-- after a verb of which nothing is told the next one is lawful
pub goes-on : (by : Taker) (most taken : ℕ) (world : World) → LastsFor by most → taken + 1 < most → refusal world (event_of by) ≡ None → told_line world (comes_to world (event_of by)) ≡ None
    → refusal (happens world (event_of by)) (event_of by) ≡ None
goes-on (taker.Client client) most taken world lasts more none quiet =
    rw (occurred world (event.Step client) none) (acts-goes world client none (going world client _ quiet))
goes-on (taker.Late client) most taken world lasts more none quiet = absurd (omega arith)
goes-on taker.Master most taken world lasts more none quiet = rw (occurred world event.Work none) (works-goes world world.master.task none quiet)

-- Events.

works-events : (world : World) (task : TaskState) → (works_on world task).events ≤ world.events + 1
works-events world NoTask = omega arith
works-events world (Settles settling) = omega arith
works-events world (Recovers recovery) = omega arith
works-events world (Joins joining) = omega arith

occurs-events : (world : World) (event : Event) → (occurs world event).events ≤ world.events + 1
occurs-events world event.Register = omega arith
occurs-events world (event.Invoke client call) = omega arith
occurs-events world (event.Step client) = omega arith
occurs-events world (event.Late client) = omega arith
occurs-events world (event.Stop client) = omega arith
occurs-events world (event.Lose node) = omega arith
occurs-events world (event.Fill node word) = omega arith
occurs-events world (event.Choose task) = omega arith
occurs-events world event.Work = works-events world world.master.task

-- an event is one more at most
pub happens-events : (world : World) (event : Event) → (happens world event).events ≤ world.events + 1
happens-events world event = by (refusal world event)
  where
    by : (reason : Option Refused) → (option_map_or (λ reason. world) reason (occurs world event)).events ≤ world.events + 1
    by None = occurs-events world event
    by (Some reason) = omega arith
