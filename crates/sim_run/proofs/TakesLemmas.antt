-- Rows of verbs and tasks, with the number of their verbs.
use Rattle.std.proofs.Common.{◌≡◌, ℕ, zero, suc, ◌+◌, ◌-◌, ◌<◌, Bool, true, false, ◌&&◌, List, [], ◌∷◌, length, Option, Some, None, if◌then◌else◌, refl, sym, ap, ◌∙◌, add_assoc, add-zero, arith, length-set}
use Rattle.std.specs.Prelude.{is_none, is_some, nat_lt}
use Rattle.std.specs.Option.{option_map_or}
use Rattle.std.proofs.lemmas.Bool.Decides.{nat_tests}
use Rattle.kv_ops.proofs.KeptLemmas.{turn-kept}
use Rattle.kv_ops.specs.Stepping.{is_ended}
use Rattle.machine.specs.Client.{after, is_idle, told}
use Rattle.machine.specs.Joining as joinings
use Rattle.machine.specs.Joining.{Joining}
use Rattle.machine.specs.Recovery as recoveries
use Rattle.machine.specs.RecoveryStage.{Recovery}
use Rattle.machine.specs.Settling as settlings
use Rattle.machine.specs.Settling.{Settling}
use Rattle.machine.specs.declared.client_call.Step.{Step}
use Rattle.machine.specs.declared.client_call.Step.TheVariants as step
use Rattle.machine.specs.declared.joining.Joined.{Joined}
use Rattle.machine.specs.declared.joining.Joined.TheVariants as joined
use Rattle.machine.specs.declared.recovery.Recovering.{Recovering}
use Rattle.machine.specs.declared.recovery.Recovering.TheVariants as recovering
use Rattle.machine.specs.declared.settling.Settled.{Settled}
use Rattle.machine.specs.declared.settling.Settled.TheVariants as settled
use Rattle.machine_world.proofs.EventLemmas.{acts-own, occurred}
use Rattle.machine_world.specs.Events.{acts, answer_of, comes_to, happens, joining_after, recovery_after, settling_after, work_of, works_on}
use Rattle.machine_world.specs.Refusals.{of_work, refusal}
use Rattle.machine_world.specs.World.{Joins, NoTask, Recovers, Settles, TaskState, World, client_at, is_registered, is_stopped}
use Rattle.machine_world.specs.declared.events.Event.{Event}
use Rattle.machine_world.specs.declared.events.Event.TheVariants as event
use Rattle.machine_world.specs.declared.events.Task.{Task}
use Rattle.machine_world.specs.declared.events.Task.TheVariants as task
use Rattle.machine_world.specs.declared.outcomes.Happened.{Happened}
use Rattle.machine_world.specs.declared.outcomes.Happened.TheVariants as happened
use Rattle.machine_world.specs.declared.outcomes.Refused.{Refused}
use Rattle.machine_world.specs.declared.outcomes.Refused.TheVariants as refused
use Rattle.script_meaning.specs.Lines.{Ran, client_of, comes, followed_by, is_settling, line_of_joining, line_of_recovery, line_of_settling, line_of_step, most_verbs, prints, says_refused, settles, subject_of, taker_of, takes, takes_up_to, told_line, verb_lines, works_on as works_through}
use Rattle.script_text.specs.declared.out_lines.OutLine.{OutLine}
use Rattle.script_text.specs.declared.out_lines.OutLine.TheVariants as out
use Rattle.sim_meaning.specs.Summary.{verbs_at, verbs_in}
use Rattle.sim_run.specs.Counted.{Counted, after_event, counts, event_of}
use Rattle.sim_run.specs.Told.{is_told_of, tells_of_joining, tells_of_recovery, tells_of_settling, tells_of_step}
use Rattle.sim_run.specs.declared.takers.Taker.{Taker}
use Rattle.sim_run.specs.declared.takers.Taker.TheVariants as taker
use Rattle.verb_words.specs.Applied.{answer_to}

-- Counting.

pub counts-nothing : (before : Counted) (lines : List OutLine) → counts before (prints before.world lines) ≡ before
unfolding verbs_in
counts-nothing before lines = λ i. record { world = before.world; verbs = add-zero before.verbs i }

-- an event alone
pub counts-one : (before : Counted) (event : Event) (lines : List OutLine) → counts before (comes before.world event lines) ≡ after_event before event
unfolding verbs_in
counts-one before event lines = λ i. record { world = happens before.world event; verbs = before.verbs + add-zero (verbs_at before.world event) i }

-- an event, and what follows
pub counts-followed : (before : Counted) (event : Event) (lines : List OutLine) (rest : World → Ran)
    → counts before (followed_by (comes before.world event lines) rest) ≡ counts (after_event before event) (rest (happens before.world event))
unfolding verbs_in
counts-followed before event lines rest =
    let ran = rest (happens before.world event) in
    λ i. record { world = ran.world; verbs = sym (add_assoc before.verbs (verbs_at before.world event) (verbs_in (happens before.world event) ran.events)) i }

-- Rows of verbs.

-- what is left of a row
abbrev pub row_of : Counted → Event → ℕ → ℕ → Counted
row_of before event taken left = counts before (takes false event taken left before.world)

pub row-none : (before : Counted) (event : Event) (taken left : ℕ) → left ≡ 0 → row_of before event taken left ≡ before
unfolding takes
row-none before event taken left none = rw none (counts-nothing before (out.Took (taker_of event) taken ∷ []))

some_told : (told : Option OutLine) → is_some told ≡ true → (line : OutLine) × (told ≡ Some line)
some_told None is = absurd cc
some_told (Some line) is = (line, refl)

quiet : (told : Option OutLine) → is_some told ≡ false → told ≡ None
quiet None is = refl
quiet (Some line) is = absurd cc

-- a verb by which the row comes to its end
pub row-ends : (before : Counted) (event : Event) (taken left : ℕ) → 0 < left → is_some (told_line before.world (comes_to before.world event)) ≡ true
    → row_of before event taken left ≡ after_event before event
unfolding takes
row-ends before event taken zero more ends = absurd (omega arith)
row-ends before event taken (suc left) more ends =
    let told = some_told (told_line before.world (comes_to before.world event)) ends in
    rw told.1
    (counts-followed before event (verb_lines false (comes_to before.world event)) (λ now. prints now (told.0 ∷ []))
    ∙ counts-nothing (after_event before event) (told.0 ∷ []))

-- a verb after which the row goes on
pub row-goes : (before : Counted) (event : Event) (taken left rest : ℕ) → 0 < left → is_some (told_line before.world (comes_to before.world event)) ≡ false → rest ≡ left - 1
    → row_of before event taken left ≡ row_of (after_event before event) event (taken + 1) rest
unfolding takes
row-goes before event taken zero rest more goes is = absurd (omega arith)
row-goes before event taken (suc left) rest more goes is =
    let one : rest ≡ left = omega (arith, is) in
    rw (quiet (told_line before.world (comes_to before.world event)) goes, one)
    (counts-followed before event (verb_lines false (comes_to before.world event)) (takes false event (taken + 1) left))

-- What is told.

told-step : (world : World) (client : ℕ) (tells : Step) → is_some (line_of_step world client tells) ≡ tells_of_step tells
told-step world client step.Going = refl
told-step world client (step.Ended result) = refl
told-step world client (step.NotYet why) = refl

told-recovery : (client : ℕ) (tells : Recovering) → is_some (line_of_recovery client tells) ≡ tells_of_recovery tells
told-recovery client recovering.Going = refl
told-recovery client recovering.Recovered = refl
told-recovery client (recovering.NotYet why) = refl

told-settling : (tells : Settled) → is_some (line_of_settling tells) ≡ tells_of_settling tells
told-settling settled.Going = refl
told-settling (settled.Opened word) = refl
told-settling (settled.NotYet client begin) = refl

told-joining : (node : ℕ) (tells : Joined) → is_some (line_of_joining node tells) ≡ tells_of_joining tells
told-joining node joined.Going = refl
told-joining node joined.Joined = refl
told-joining node (joined.NotYet why) = refl

-- whether something is told is seen by the answer alone
pub told-seen : (world : World) (came : Happened) → is_some (told_line world came) ≡ is_told_of came
told-seen world (happened.Stepped seen tells) = told-step world (client_of seen.actor) tells
told-seen world (happened.Recovering seen tells) = told-recovery (subject_of world.master.task) tells
told-seen world (happened.Settling seen tells) = told-settling tells
told-seen world (happened.Joining seen tells) = told-joining (subject_of world.master.task) tells
told-seen world (happened.Registered client) = refl
told-seen world (happened.Invoked number) = refl
told-seen world happened.Stopped = refl
told-seen world happened.Lost = refl
told-seen world happened.Filled = refl
told-seen world happened.Chosen = refl

-- What may follow.

going : (world : World) (client : ℕ) (tells : Step) → line_of_step world client tells ≡ None → tells ≡ step.Going
going world client step.Going none = refl
going world client (step.Ended result) none = absurd cc
going world client (step.NotYet why) none = absurd cc

-- a client that may step is registered, not stopped, and inside a call
may-step : (world : World) (client : ℕ) → refusal world (event.Step client) ≡ None → (is_registered world client ≡ true) × (is_stopped world client ≡ false) × (is_idle (client_at world client) ≡ false)
may-step world client none = by (is_registered world client) refl (is_stopped world client) refl (is_idle (client_at world client)) refl
  where
    by : (t : Bool) → is_registered world client ≡ t → (u : Bool) → is_stopped world client ≡ u → (v : Bool) → is_idle (client_at world client) ≡ v
        → (is_registered world client ≡ true) × (is_stopped world client ≡ false) × (is_idle (client_at world client) ≡ false)
    by true known true halted v idle = let bad : Some (refused.Stopped client) ≡ None = sym (rw (known, halted) refl) ∙ none in absurd cc
    by true known false running true idle = let bad : Some (refused.Idle client) ≡ None = sym (rw (known, running, idle) refl) ∙ none in absurd cc
    by true known false running false idle = (known, running, idle)
    by false unknown u halted v idle = let bad : Some (refused.Unknown client) ≡ None = sym (rw unknown refl) ∙ none in absurd cc

registered-within : (client count : ℕ) → (nat_lt 0 client && nat_lt client count) ≡ true → client < count
registered-within client count known = grind (arith, nat_tests)

acts-goes : (world : World) (client : ℕ) → refusal world (event.Step client) ≡ None → told (client_at world client) (answer_of false world client) ≡ step.Going
    → refusal (acts false world client) (event.Step client) ≡ None
acts-goes world client none goes =
    let may = may-step world client none in
    let known = ap (λ n. nat_lt 0 client && nat_lt client n) (length-set world.clients client (after (client_at world client) (answer_of false world client))) ∙ may.0 in
    let idle : is_idle (client_at (acts false world client) client) ≡ false =
    ap is_idle (acts-own false world client (registered-within client (length world.clients) may.0))
    ∙ (turn-kept (client_at world client) (answer_of false world client)).idle may.2 ∙ ap is_ended goes in
    by (acts false world client) known may.1 idle
  where
    by : (now : World) → is_registered now client ≡ true → is_stopped now client ≡ false → is_idle (client_at now client) ≡ false → refusal now (event.Step client) ≡ None
    by now known running idle = rw (known, running, idle) refl

settling-goes : (settling : Settling) (tells : Settled) → line_of_settling tells ≡ None → of_work (settling_after settling tells) ≡ None
settling-goes settling settled.Going quiet = refl
settling-goes settling (settled.Opened word) quiet = absurd cc
settling-goes settling (settled.NotYet client begin) quiet = absurd cc

recovery-goes : (subject : ℕ) (recovery : Recovery) (tells : Recovering) → line_of_recovery subject tells ≡ None → of_work (recovery_after recovery tells) ≡ None
recovery-goes subject recovery recovering.Going quiet = refl
recovery-goes subject recovery recovering.Recovered quiet = absurd cc
recovery-goes subject recovery (recovering.NotYet why) quiet = absurd cc

joining-goes : (subject : ℕ) (joining : Joining) (tells : Joined) → line_of_joining subject tells ≡ None → of_work (joining_after joining tells) ≡ None
joining-goes subject joining joined.Going quiet = refl
joining-goes subject joining joined.Joined quiet = absurd cc
joining-goes subject joining (joined.NotYet why) quiet = absurd cc

works-goes : (world : World) (task : TaskState) → of_work task ≡ None → told_line world (work_of world task) ≡ None → of_work (works_on world task).master.task ≡ None
works-goes world NoTask none quiet = let bad : Some refused.NoTask ≡ None = none in absurd cc
works-goes world (Settles settling) none quiet =
    let turned = settlings.turn settling (answer_to world.nodes (settlings.next settling) true) in
    settling-goes turned.state turned.told quiet
works-goes world (Recovers recovery) none quiet =
    let turned = recoveries.turn recovery (answer_to world.nodes (recoveries.next recovery) true) in
    recovery-goes (subject_of world.master.task) turned.state turned.told quiet
works-goes world (Joins joining) none quiet =
    let turned = joinings.turn joining (answer_to world.nodes (joinings.next joining) true) in
    joining-goes (subject_of world.master.task) turned.state turned.told quiet

-- after a verb of which nothing is told the next one is lawful
pub row-lawful : (by : Taker) (world : World) → refusal world (event_of by) ≡ None → is_some (told_line world (comes_to world (event_of by))) ≡ false
    → refusal (happens world (event_of by)) (event_of by) ≡ None
row-lawful (taker.Client client) world none goes =
    rw (occurred world (event.Step client) none) (acts-goes world client none (going world client _ (quiet (told_line world (comes_to world (event.Step client))) goes)))
row-lawful taker.Master world none goes =
    rw (occurred world event.Work none) (works-goes world world.master.task none (quiet (told_line world (comes_to world event.Work)) goes))

-- Lines.

pub row-refused : (before : Counted) (event : Event) (reason : Refused) (most : ℕ) → refusal before.world event ≡ Some reason → counts before (takes_up_to most false event before.world) ≡ before
row-refused before event reason most is =
    ap (λ why. counts before (option_map_or (says_refused before.world) why (takes false event 0 most before.world))) is ∙ counts-nothing before (says_refused before.world reason).lines

pub row-taken : (before : Counted) (event : Event) (most : ℕ) → refusal before.world event ≡ None → counts before (takes_up_to most false event before.world) ≡ row_of before event 0 most
row-taken before event most is = ap (λ why. counts before (option_map_or (says_refused before.world) why (takes false event 0 most before.world))) is

-- a task and its verbs
abbrev through : World → Task → Ran
through world task = followed_by (comes world (event.Choose task) []) (takes_up_to most_verbs false event.Work)

pub task-refused : (before : Counted) (task : Task) (reason : Refused) → refusal before.world (event.Choose task) ≡ Some reason → counts before (works_through false before.world task) ≡ before
task-refused before task reason is =
    ap (λ why. counts before (option_map_or (says_refused before.world) why (through before.world task))) is ∙ counts-nothing before (says_refused before.world reason).lines

pub task-begun : (before : Counted) (task : Task) → refusal before.world (event.Choose task) ≡ None
    → counts before (works_through false before.world task)
    ≡ counts (after_event before (event.Choose task)) (takes_up_to most_verbs false event.Work (happens before.world (event.Choose task)))
task-begun before task is =
    ap (λ why. counts before (option_map_or (says_refused before.world) why (through before.world task))) is ∙ counts-followed before (event.Choose task) [] (takes_up_to most_verbs false event.Work)

-- By the refusal that the code has at hand.

refusing : (world : World) (event : Event) (reason : Option Refused) (test : Bool) → reason ≡ refusal world event → test ≡ is_some reason → test ≡ true → (why : Refused) × (refusal world event ≡ Some why)
refusing world event None test is some there = let bad : false ≡ true = sym some ∙ there in absurd cc
refusing world event (Some why) test is some there = (why, sym is)

pub lawful-if : (world : World) (event : Event) (may : Bool) → may ≡ is_none (refusal world event) → may ≡ true → refusal world event ≡ None
lawful-if world event may is does = by (refusal world event) refl
  where
    by : (r : Option Refused) → refusal world event ≡ r → refusal world event ≡ None
    by None none = none
    by (Some why) some = let bad : true ≡ false = sym does ∙ is ∙ ap is_none some in absurd cc

pub row-unless : (before : Counted) (event : Event) (most : ℕ) (may : Bool) → may ≡ is_none (refusal before.world event) → may ≡ false
    → before ≡ counts before (takes_up_to most false event before.world)
row-unless before event most may is not_so = by (refusal before.world event) refl
  where
    by : (r : Option Refused) → refusal before.world event ≡ r → before ≡ counts before (takes_up_to most false event before.world)
    by None none = let bad : true ≡ false = sym (is ∙ ap is_none none) ∙ not_so in absurd cc
    by (Some why) some = sym (row-refused before event why most some)

pub task-unless : (before : Counted) (task : Task) (world : World) (reason : Option Refused) (test : Bool) → world ≡ before.world → reason ≡ refusal world (event.Choose task) → test ≡ is_some reason → test ≡ true
    → before ≡ counts before (works_through false before.world task)
task-unless before task world reason test same why some there =
    let refused = refusing before.world (event.Choose task) reason test (why ∙ ap (λ w. refusal w (event.Choose task)) same) some there in
    sym (task-refused before task refused.0 refused.1)

pub lawful-now : (before : Counted) (event found : Event) (world : World) (reason : Option Refused) (test : Bool) → world ≡ before.world → found ≡ event → reason ≡ refusal world found → test ≡ is_some reason → test ≡ false
    → refusal before.world event ≡ None
lawful-now before event found world reason test same is why some not_so = by reason (why ∙ (λ i. refusal (same i) (is i))) some
  where
    by : (r : Option Refused) → r ≡ refusal before.world event → test ≡ is_some r → refusal before.world event ≡ None
    by None is_none none = sym is_none
    by (Some found_reason) is_some_reason there = let bad : true ≡ false = sym there ∙ not_so in absurd cc

pub settles-if : (before : Counted) (known : Bool) → is_settling before.world before.world.master.task ≡ known
    → counts before (settles false before.world) ≡ (if known then counts before (takes_up_to most_verbs false event.Work before.world) else counts before (works_through false before.world task.Settle))
settles-if before true is = rw is refl
settles-if before false is = rw is refl
