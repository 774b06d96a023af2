-- The master's verbs as events of the world.
use Rattle.std.proofs.Common.{◌≡◌, ℕ, ◌+◌, ◌-◌, ◌<◌, ◌≤◌, Bool, true, List, ◌∷◌, length, None, refl, sym, ap, subst, ◌∙◌, arith}
use Rattle.std.specs.Prelude.{if◌then◌else◌, not, slice_index_or}
use Rattle.machine.specs.declared.joining.Joined.{Joined}
use Rattle.machine.specs.declared.joining.Joined.TheVariants as joined
use Rattle.machine.specs.declared.recovery.Recovering.{Recovering}
use Rattle.machine.specs.declared.recovery.Recovering.TheVariants as recovering
use Rattle.machine.specs.declared.settling.Settled.{Settled}
use Rattle.machine.specs.declared.settling.Settled.TheVariants as settled
use Rattle.machine.specs.Joining as joinings
use Rattle.machine.specs.Joining.{Joining}
use Rattle.machine.specs.Recovery as recoveries
use Rattle.machine.specs.RecoveryStage.{IsRecovery, Recovery}
use Rattle.machine.specs.Settling as settlings
use Rattle.machine.specs.Settling.{Settling}
use Rattle.machine.specs.Stage.{Client}
use Rattle.machine_world.specs.Events.{also_if, final_of_recovery, is_recovered, joining_after, opens, recovery_after, settles_call, settling_after, verb_of_task, works, works_on}
use Rattle.machine_world.specs.Ledger.{caller_of, with_final, with_opening}
use Rattle.machine_world.specs.Refusals.{refusal}
use Rattle.machine_world.specs.Standing.{TaskStands}
use Rattle.machine_world.specs.World.{Joins, Ledger, NoTask, Recovers, Settles, TaskState, World, client_at, nobody}
use Rattle.machine_world.specs.declared.events.Event.TheVariants as event
use Rattle.machine_world.proofs.StandingLemmas.{verb_of_task-place}
use Rattle.verb_words.specs.Applied.{answer_to, words_after}
use Rattle.verb_words.specs.Verb.{place_of}
use Rattle.verb_words.specs.Words.{HasPlace}
use Rattle.world_core.specs.Openings.{CanOpen, IsInPlace, opening_world}
use Rattle.world_core.specs.Reached.{IsRun}
use Rattle.world_core.specs.Steps.{client_in}
use Rattle.world_core.specs.Works.{joins_on, recovers_on}
use Rattle.world_core.proofs.ActLemmas.{own-client}
use Rattle.world_core.proofs.Keeping.{IsKept}
use Rattle.world_core.proofs.KeptLemmas.{run-keeps}
use Rattle.world_core.proofs.OpeningWorldLemmas.{opening_of_world}
use Rattle.region_view.specs.Sizes.{Sizes}
use Rattle.world_core.proofs.TaskLemmas.{IsKnownBelow, reached-known}
use Rattle.world_core.proofs.ReachedLemmas.{occurs-run}

-- What a task may count on.

pub run-can_open : (world : World) (clients : List Client) → IsRun world → world.clients ≡ nobody world.shape ∷ clients → CanOpen world.shape world.nodes clients world.ledger
run-can_open world clients is all = record {
  words = is.stands.words;
  slots = kept.decided;
  in_place = λ place under. at place under;
}
  where
    kept : IsKept world
    kept = run-keeps world is

    at : (place : ℕ) → place < length clients → IsInPlace world.shape (place + 1) (slice_index_or clients place (nobody world.shape))
    at place under =
        let within : place + 1 < length world.clients = omega (arith, under, ap length all) in
        let back : place + 1 - 1 ≡ place = omega arith in
        let own : client_in world.shape clients place ≡ client_at world (place + 1) = sym (ap (client_in world.shape clients) back) ∙ own-client world clients (place + 1) all (omega arith) in
        subst (IsInPlace world.shape (place + 1)) (sym own) (record {
          own = (is.stands.each (place + 1) (omega arith) within).member.same_number;
          object = kept.objects (place + 1) (omega arith) within;
        })

pub settling-place : (world : World) (settling : Settling) → IsRun world → world.master.task ≡ Settles settling → HasPlace world.nodes (place_of (settlings.next settling))
settling-place world settling is task = verb_of_task-place world (settlings.next settling) is.stands (ap verb_of_task task)

pub recovery-place : (world : World) (recovery : Recovery) → IsRun world → world.master.task ≡ Recovers recovery → HasPlace world.nodes (place_of (recoveries.next recovery))
recovery-place world recovery is task = verb_of_task-place world (recoveries.next recovery) is.stands (ap verb_of_task task)

pub recovery-stands : (world : World) (recovery : Recovery) → IsRun world → world.master.task ≡ Recovers recovery → IsRecovery world.shape recovery.client recovery
recovery-stands world recovery is task = subst (TaskStands world.shape) task is.stands.task

-- whom the master recovers is registered
pub recovered-client : (world : World) (recovery : Recovery) → IsRun world → world.master.task ≡ Recovers recovery → (1 ≤ recovery.client) × (recovery.client < length world.clients) × (recovery.client ≤ 64)
recovered-client world recovery is task =
    let stands = recovery-stands world recovery is task in
    (stands.client.0, subst (IsKnownBelow (length world.clients)) task (reached-known world is.reached), omega (arith, stands.client.1, ap (λ (s : Sizes). s.clients) stands.same_shape, is.stands.limits.clients))

-- Whether a task is over.

settled-over : (settling : Settling) (told : Settled) → (if opens told then NoTask else Settles settling) ≡ settling_after settling told
settled-over settling settled.Going = refl
settled-over settling (settled.Opened word) = refl
settled-over settling (settled.NotYet client begin) = refl

recovered-over : (recovery : Recovery) (told : Recovering) → (if not (recovers_on told) then NoTask else Recovers recovery) ≡ recovery_after recovery told
recovered-over recovery recovering.Going = refl
recovered-over recovery recovering.Recovered = refl
recovered-over recovery (recovering.NotYet reason) = refl

joined-over : (joining : Joining) (told : Joined) → (if not (joins_on told) then NoTask else Joins joining) ≡ joining_after joining told
joined-over joining joined.Going = refl
joined-over joining joined.Joined = refl
joined-over joining (joined.NotYet reason) = refl

-- The world after a verb of each task.

pub settled-world : (world : World) (clients : List Client) (settling state : Settling) (told : Settled) (now : List (List ℕ)) (task : TaskState) (ledger : Ledger)
    → world.clients ≡ nobody world.shape ∷ clients → world.master.task ≡ Settles settling
    → state ≡ (settlings.turn settling (answer_to world.nodes (settlings.next settling) true)).state
    → told ≡ (settlings.turn settling (answer_to world.nodes (settlings.next settling) true)).told
    → now ≡ words_after world.nodes (settlings.next settling) true
    → task ≡ (if opens told then NoTask else Settles state)
    → ledger ≡ (if opens told then with_opening (opening_world world.shape world.nodes clients world.master.settled world.events) now world.ledger else world.ledger)
    → record {
      shape = world.shape;
      nodes = now;
      clients = world.clients;
      master = record { task = task; won = world.master.won; settled = world.master.settled; recovered = world.master.recovered };
      stopped = world.stopped;
      trace = world.trace;
      ledger = ledger;
      events = world.events + 1;
    } ≡ works world
settled-world world clients settling state told now task ledger all is_task is_state is_told is_now is_over is_ledger =
    let answer = answer_to world.nodes (settlings.next settling) true in
    let same_task = is_over ∙ settled-over state told ∙ (λ i. settling_after (is_state i) (is_told i)) in
    let same_ledger : ledger ≡ (if opens (settlings.turn settling answer).told
    then with_opening world (words_after world.nodes (settlings.next settling) true) world.ledger else world.ledger) =
    is_ledger ∙ (λ i. if opens (is_told i) then sym (opening_of_world world now world.ledger world.shape world.nodes clients world.master.settled world.events refl refl all refl refl) i else world.ledger)
    ∙ (λ i. if opens (settlings.turn settling answer).told then with_opening world (is_now i) world.ledger else world.ledger) in
    let first : record {
      shape = world.shape;
      nodes = now;
      clients = world.clients;
      master = record { task = task; won = world.master.won; settled = world.master.settled; recovered = world.master.recovered };
      stopped = world.stopped;
      trace = world.trace;
      ledger = ledger;
      events = world.events + 1;
    } ≡ works_on world (Settles settling) = λ i. record {
      shape = world.shape;
      nodes = is_now i;
      clients = world.clients;
      master = record { task = same_task i; won = world.master.won; settled = world.master.settled; recovered = world.master.recovered };
      stopped = world.stopped;
      trace = world.trace;
      ledger = same_ledger i;
      events = world.events + 1;
    } in
    first ∙ ap (works_on world) (sym is_task)

pub recovered-world : (world : World) (clients : List Client) (actor : Client) (recovery state : Recovery) (told : Recovering) (settles : Bool) (now : List (List ℕ)) (task : TaskState) (won settled recovered : List ℕ) (ledger : Ledger)
    → world.clients ≡ nobody world.shape ∷ clients → world.master.task ≡ Recovers recovery → actor ≡ client_at world recovery.client
    → state ≡ (recoveries.turn recovery (answer_to world.nodes (recoveries.next recovery) true)).state
    → told ≡ (recoveries.turn recovery (answer_to world.nodes (recoveries.next recovery) true)).told
    → settles ≡ settles_call recovery.stage (answer_to world.nodes (recoveries.next recovery) true)
    → now ≡ words_after world.nodes (recoveries.next recovery) true
    → task ≡ (if not (recovers_on told) then NoTask else Recovers state)
    → won ≡ also_if state.won recovery.client world.master.won
    → settled ≡ also_if settles recovery.client world.master.settled
    → recovered ≡ also_if (is_recovered told) recovery.client world.master.recovered
    → ledger ≡ with_final world.shape world.nodes now world.events (caller_of actor) (final_of_recovery recovery.stage) world.ledger
    → record {
      shape = world.shape;
      nodes = now;
      clients = world.clients;
      master = record { task = task; won = won; settled = settled; recovered = recovered };
      stopped = world.stopped;
      trace = world.trace;
      ledger = ledger;
      events = world.events + 1;
    } ≡ works world
recovered-world world clients actor recovery state told settles now task won settled recovered ledger all is_task is_actor is_state is_told is_settles is_now is_over is_won is_settled is_recovered_list is_ledger =
    let answer = answer_to world.nodes (recoveries.next recovery) true in
    let same_task = is_over ∙ recovered-over state told ∙ (λ i. recovery_after (is_state i) (is_told i)) in
    let same_won = is_won ∙ ap (λ (r : Recovery). also_if r.won recovery.client world.master.won) is_state in
    let same_settled = is_settled ∙ ap (λ t. also_if t recovery.client world.master.settled) is_settles in
    let same_recovered = is_recovered_list ∙ ap (λ t. also_if (is_recovered t) recovery.client world.master.recovered) is_told in
    let same_ledger = is_ledger ∙ (λ i. with_final world.shape world.nodes (is_now i) world.events (caller_of (is_actor i)) (final_of_recovery recovery.stage) world.ledger) in
    let first : record {
      shape = world.shape;
      nodes = now;
      clients = world.clients;
      master = record { task = task; won = won; settled = settled; recovered = recovered };
      stopped = world.stopped;
      trace = world.trace;
      ledger = ledger;
      events = world.events + 1;
    } ≡ works_on world (Recovers recovery) = λ i. record {
      shape = world.shape;
      nodes = is_now i;
      clients = world.clients;
      master = record { task = same_task i; won = same_won i; settled = same_settled i; recovered = same_recovered i };
      stopped = world.stopped;
      trace = world.trace;
      ledger = same_ledger i;
      events = world.events + 1;
    } in
    first ∙ ap (works_on world) (sym is_task)

pub joined-world : (world : World) (joining state : Joining) (told : Joined) (now : List (List ℕ)) (task : TaskState)
    → world.master.task ≡ Joins joining
    → state ≡ (joinings.turn joining (answer_to world.nodes (joinings.next joining) true)).state
    → told ≡ (joinings.turn joining (answer_to world.nodes (joinings.next joining) true)).told
    → now ≡ words_after world.nodes (joinings.next joining) true
    → task ≡ (if not (joins_on told) then NoTask else Joins state)
    → record {
      shape = world.shape;
      nodes = now;
      clients = world.clients;
      master = record { task = task; won = world.master.won; settled = world.master.settled; recovered = world.master.recovered };
      stopped = world.stopped;
      trace = world.trace;
      ledger = world.ledger;
      events = world.events + 1;
    } ≡ works world
joined-world world joining state told now task is_task is_state is_told is_now is_over =
    let same_task = is_over ∙ joined-over state told ∙ (λ i. joining_after (is_state i) (is_told i)) in
    let first : record {
      shape = world.shape;
      nodes = now;
      clients = world.clients;
      master = record { task = task; won = world.master.won; settled = world.master.settled; recovered = world.master.recovered };
      stopped = world.stopped;
      trace = world.trace;
      ledger = world.ledger;
      events = world.events + 1;
    } ≡ works_on world (Joins joining) = λ i. record {
      shape = world.shape;
      nodes = is_now i;
      clients = world.clients;
      master = record { task = same_task i; won = world.master.won; settled = world.master.settled; recovered = world.master.recovered };
      stopped = world.stopped;
      trace = world.trace;
      ledger = world.ledger;
      events = world.events + 1;
    } in
    first ∙ ap (works_on world) (sym is_task)

pub works-run : (world : World) → refusal world event.Work ≡ None → IsRun world → IsRun (works world)
works-run world none is = occurs-run world event.Work none is
