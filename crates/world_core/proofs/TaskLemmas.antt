-- Whom the master recovers is registered.
use Rattle.std.proofs.Common.{◌≡◌, ℕ, ◌<◌, ◌≤◌, Bool, true, false, List, [], ◌∷◌, length, Option, Some, None, refl, sym, subst, ◌∙◌, arith, length-append, length-set}
use Rattle.std.proofs.lemmas.Bool.Decides.{nat_tests}
use Rattle.machine.specs.Client.{after, invoked}
use Rattle.machine.specs.declared.joining.Joined.{Joined}
use Rattle.machine.specs.declared.joining.Joined.TheVariants as joined
use Rattle.machine.specs.declared.recovery.Recovering.{Recovering}
use Rattle.machine.specs.declared.recovery.Recovering.TheVariants as recovering
use Rattle.machine.specs.declared.settling.Settled.{Settled}
use Rattle.machine.specs.declared.settling.Settled.TheVariants as settled
use Rattle.machine.specs.Joining as joinings
use Rattle.machine.specs.Joining.{Joining}
use Rattle.machine.specs.Recovery as recoveries
use Rattle.machine.specs.RecoveryStage.{Recovery}
use Rattle.machine.specs.Settling as settlings
use Rattle.machine.specs.Settling.{Settling}
use Rattle.machine.specs.Stage.{first_client}
use Rattle.machine.proofs.RecoveryKept as of_recovery_turns
use Rattle.machine_world.specs.Calls.{key_of, operation_of, value_of}
use Rattle.machine_world.specs.Events.{answer_of, happens, joining_after, occurs, recovery_after, settling_after, works_on}
use Rattle.machine_world.specs.Refusals.{of_recovery, refusal}
use Rattle.machine_world.specs.Runs.{run, run_from}
use Rattle.machine_world.specs.Standing.{StandsWell, TaskStands}
use Rattle.machine_world.specs.World.{Joins, NoTask, Recovers, Settles, TaskState, World, client_at, first_world, is_registered}
use Rattle.machine_world.specs.declared.events.Event.{Event}
use Rattle.machine_world.specs.declared.events.Event.TheVariants.{Register, Invoke, Step, Late, Stop, Lose, Fill, Choose, Work}
use Rattle.machine_world.specs.declared.events.Task.TheVariants.{Settle, Recover, Join}
use Rattle.machine_world.specs.declared.outcomes.Refused.{Refused}
use Rattle.machine_world.specs.declared.outcomes.Refused.TheVariants as refused
use Rattle.machine_world.proofs.StandingLemmas.{first_world-stands, happens-stands}
use Rattle.verb_words.specs.Applied.{answer_to}
use Rattle.region_view.specs.Sizes.{IsWithinLimits, Sizes}
use Rattle.world_core.specs.Reached.{IsReached}

-- whom a task is to recover is below this number
abbrev pub IsKnownBelow : ℕ → TaskState → Type 0
IsKnownBelow count NoTask = Unit {0}
IsKnownBelow count (Settles settling) = Unit {0}
IsKnownBelow count (Recovers recovery) = recovery.client < count
IsKnownBelow count (Joins joining) = Unit {0}

abbrev pub KnowsTask : World → Type 0
KnowsTask world = IsKnownBelow (length world.clients) world.master.task

known-of_more : (count more : ℕ) (task : TaskState) → count ≤ more → IsKnownBelow count task → IsKnownBelow more task
known-of_more count more NoTask least known = tt
known-of_more count more (Settles settling) least known = tt
known-of_more count more (Recovers recovery) least known = omega (arith, least, known)
known-of_more count more (Joins joining) least known = tt

settling_after-known : (count : ℕ) (settling : Settling) (told : Settled) → IsKnownBelow count (settling_after settling told)
settling_after-known count settling settled.Going = tt
settling_after-known count settling (settled.Opened word) = tt
settling_after-known count settling (settled.NotYet client begin) = tt

joining_after-known : (count : ℕ) (joining : Joining) (told : Joined) → IsKnownBelow count (joining_after joining told)
joining_after-known count joining joined.Going = tt
joining_after-known count joining joined.Joined = tt
joining_after-known count joining (joined.NotYet reason) = tt

recovery_after-known : (count : ℕ) (recovery : Recovery) (told : Recovering) → recovery.client < count → IsKnownBelow count (recovery_after recovery told)
recovery_after-known count recovery recovering.Going known = known
recovery_after-known count recovery recovering.Recovered known = tt
recovery_after-known count recovery (recovering.NotYet reason) known = tt

works_on-known : (world : World) (task : TaskState) → TaskStands world.shape task → IsKnownBelow (length world.clients) task → KnowsTask world → KnowsTask (works_on world task)
works_on-known world NoTask stands known all = all
works_on-known world (Settles settling) stands known all =
    settling_after-known (length world.clients) _ (settlings.turn settling (answer_to world.nodes (settlings.next settling) true)).told
works_on-known world (Recovers recovery) stands known all =
    let answer = answer_to world.nodes (recoveries.next recovery) true in
    let same = (of_recovery_turns.turn-is world.shape recovery.client recovery answer stands).same_client in
    recovery_after-known (length world.clients) (recoveries.turn recovery answer).state (recoveries.turn recovery answer).told (omega (arith, same, known))
works_on-known world (Joins joining) stands known all =
    joining_after-known (length world.clients) _ (joinings.turn joining (answer_to world.nodes (joinings.next joining) true)).told

registered-below : (world : World) (client : ℕ) → of_recovery world client ≡ None → client < length world.clients
registered-below world client none = by (is_registered world client) refl
  where
    by : (t : Bool) → is_registered world client ≡ t → client < length world.clients
    by true known = grind (arith, nat_tests)
    by false unknown = let bad : Some (refused.Unknown client) ≡ None = sym (rw unknown refl) ∙ none in absurd cc

occurs-known : (world : World) (event : Event) → refusal world event ≡ None → StandsWell world → KnowsTask world → KnowsTask (occurs world event)
occurs-known world Register none stands known =
    known-of_more (length world.clients) (length (occurs world Register).clients) world.master.task
    (omega (arith, length-append world.clients (first_client (length world.clients) world.shape ∷ []))) known
occurs-known world (Invoke client call) none stands known =
    known-of_more (length world.clients) (length (occurs world (Invoke client call)).clients) world.master.task
    (omega (arith, length-set world.clients client (invoked (client_at world client) (operation_of call) (key_of call) (value_of call)))) known
occurs-known world (Step client) none stands known =
    known-of_more (length world.clients) (length (occurs world (Step client)).clients) world.master.task
    (omega (arith, length-set world.clients client (after (client_at world client) (answer_of false world client)))) known
occurs-known world (Late client) none stands known =
    known-of_more (length world.clients) (length (occurs world (Late client)).clients) world.master.task
    (omega (arith, length-set world.clients client (after (client_at world client) (answer_of true world client)))) known
occurs-known world (Stop client) none stands known = known
occurs-known world (Lose node) none stands known = known
occurs-known world (Fill node word) none stands known = known
occurs-known world (Choose Settle) none stands known = tt
occurs-known world (Choose (Recover client)) none stands known = registered-below world client none
occurs-known world (Choose (Join node)) none stands known = tt
occurs-known world Work none stands known = works_on-known world world.master.task stands.task known known

happens-known : (world : World) (event : Event) → StandsWell world → KnowsTask world → KnowsTask (happens world event)
happens-known world event stands known = by (refusal world event) refl
  where
    by : (reason : Option Refused) → refusal world event ≡ reason → KnowsTask (happens world event)
    by None none = rw none (occurs-known world event none stands known)
    by (Some reason) is = rw is known

run_from-known : (world : World) (events : List Event) → StandsWell world → KnowsTask world → KnowsTask (run_from world events)
unfolding run_from
run_from-known world [] stands known = known
run_from-known world (event ∷ events) stands known = run_from-known (happens world event) events (happens-stands world event stands) (happens-known world event stands known)

run-known : (sizes : Sizes) (events : List Event) → IsWithinLimits sizes → KnowsTask (run sizes events)
unfolding run
run-known sizes events limits = run_from-known (first_world sizes) events (first_world-stands sizes limits) tt

pub reached-known : (world : World) → IsReached world → KnowsTask world
reached-known world reached = subst KnowsTask reached.is (run-known reached.sizes reached.events reached.limits)
