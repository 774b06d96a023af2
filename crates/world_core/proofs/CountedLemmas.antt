-- What is kept along all events: the lists of the past have their lengths, and no winner has beaten more calls than have ended.
use Rattle.std.proofs.Common.{◌≡◌, ◌≢◌, ℕ, zero, suc, ◌+◌, ◌-◌, ◌*◌, ◌<◌, ◌≤◌, inl, inr, Bool, true, false, List, [], ◌∷◌, ◌++◌, length, get_or, Option, Some, None, refl, sym, ap, subst, ◌∙◌, arith, length-append, length-set}
use Rattle.std.specs.List.{sum_by}
use Rattle.std.specs.Prelude.{replicate, slice_set}
use Rattle.std.proofs.Math.ListN.{get_or-append, length-replicate}
use Rattle.std.proofs.lemmas.Bool.{cases_lt}
use Rattle.std.proofs.lemmas.List.{get_or-append_right, get_or-replicate, get_or_past}
use Rattle.std.proofs.lemmas.List.Sums.{sum_by-set, sum_by_push}
use Rattle.machine.specs.Client.{after, invoked, told}
use Rattle.machine.specs.Recovery as recoveries
use Rattle.machine.specs.Settling as settlings
use Rattle.machine.specs.Stage.{Client, first_client}
use Rattle.machine_world.specs.Calls.{key_of, operation_of, value_of}
use Rattle.machine_world.specs.Events.{acts, answer_of, final_of_recovery, happens, invokes, nodes_after, occurs, opens, registers, works_on}
use Rattle.machine_world.specs.Ledger.{caller_of, with_opening}
use Rattle.machine_world.specs.Refusals.{of_client, of_late, of_step, refusal}
use Rattle.machine_world.specs.Runs.{run, run_from}
use Rattle.machine_world.specs.Standing.{StandsWell}
use Rattle.machine_world.specs.World.{Decided, Joins, Ledger, Master, NoTask, Recovers, Settles, TaskState, World, client_at, first_world, nobody, unit_count}
use Rattle.machine_world.specs.declared.events.Event.{Event}
use Rattle.machine_world.specs.declared.events.Event.TheVariants.{Register, Invoke, Step, Late, Stop, Lose, Fill, Choose, Work}
use Rattle.machine_world.specs.declared.outcomes.Refused.{Refused}
use Rattle.machine_world.proofs.StandingLemmas.{first_world-stands, happens-stands}
use Rattle.map_model.specs.declared.calls.Call.{Call}
use Rattle.map_model.specs.Trace.{Moment}
use Rattle.region_view.specs.Sizes.{IsWithinLimits, Sizes}
use Rattle.verb_words.specs.Applied.{answer_to, words_after}
use Rattle.world_core.proofs.AllowedLemmas.{call-allowed, step-allowed}
use Rattle.world_core.proofs.CallCountLemmas.{IsCalling, after-calling, calls_ended, calls_ended-after, calls_ended-invoked, first_client-calling, invoked-calling}
use Rattle.world_core.proofs.LedgerLemmas.{Grows, answer-grows, beaten_at, by_set, either, ended_by, final-grows, no_decision, opening-grows, stays}

-- the past has its lists, each client keeps to its calls, and no winner has beaten more calls than have ended
pub record IsCounted (world : World) : Type 0 where
  pub decided : length world.ledger.decided ≡ 24 * world.shape.groups
  pub holders : length world.ledger.holders ≡ unit_count world.shape
  pub reads : length world.ledger.reads ≡ length world.clients
  pub each : (client : ℕ) → IsCalling world.shape (client_at world client)
  pub beaten : (slot place : ℕ) → beaten_at world.ledger slot place ≤ sum_by calls_ended world.clients

-- The opening.

pub first_world-counted : (sizes : Sizes) → IsCounted (first_world sizes)
unfolding client_at
first_world-counted sizes = record {
  decided = length-replicate {A = List Decided} (24 * sizes.groups) [];
  holders = length-replicate {A = ℕ} (unit_count sizes) 1;
  reads = refl;
  each = each;
  beaten = λ slot place.
      let P : List Decided → Type 0 = λ list. (get_or list place no_decision).beaten ≤ sum_by calls_ended (nobody sizes ∷ []) in
      subst P (sym (none slot)) (omega arith);
}
  where
    each : (client : ℕ) → IsCalling sizes (get_or (nobody sizes ∷ []) client (nobody sizes))
    each zero = first_client-calling sizes 0
    each (suc client) = first_client-calling sizes 0

    none : (slot : ℕ) → get_or (replicate {A = List Decided} (24 * sizes.groups) []) slot [] ≡ []
    none slot = elim (cases_lt slot (24 * sizes.groups)) [
      | inl within ↦ get_or-replicate (24 * sizes.groups) slot [] [] within
      | inr past ↦ get_or_past (replicate (24 * sizes.groups) []) slot [] (omega (arith, length-replicate {A = List Decided} (24 * sizes.groups) []))
    ]

-- Events.

registers-counted : (world : World) → IsCounted world → IsCounted (registers world)
unfolding client_at
registers-counted world counted = record {
  decided = counted.decided;
  holders = counted.holders;
  reads = omega (arith, length-append world.ledger.reads (0 ∷ []), length-append world.clients (next ∷ []), counted.reads);
  each = each;
  beaten = λ slot place. omega (arith, counted.beaten slot place, sum_by_push calls_ended world.clients next);
}
  where
    next : Client
    next = first_client (length world.clients) world.shape

    last : (client : ℕ) → IsCalling world.shape (get_or (next ∷ []) client (nobody world.shape))
    last zero = first_client-calling world.shape (length world.clients)
    last (suc client) = first_client-calling world.shape 0

    each : (client : ℕ) → IsCalling world.shape (get_or (world.clients ++ next ∷ []) client (nobody world.shape))
    each client = elim (cases_lt client (length world.clients)) [
      | inl before ↦ rw (get_or-append world.clients (next ∷ []) (nobody world.shape) client before) (counted.each client)
      | inr past ↦ rw (get_or-append_right world.clients (next ∷ []) (length world.clients) client (nobody world.shape) refl past) (last (client - length world.clients))
    ]

-- one client is changed, and ends as many calls as are counted at most
changed-counted : (world : World) (client more : ℕ) (changed : Client) (nodes : List (List ℕ)) (trace : List Moment) (ledger : Ledger) → client < length world.clients → IsCalling world.shape changed
    → calls_ended changed ≡ calls_ended (client_at world client) + more → Grows more world.ledger ledger → IsCounted world
    → IsCounted (record world { nodes = nodes; clients = slice_set world.clients client changed; trace = trace; ledger = ledger; events = world.events + 1 })
unfolding client_at
changed-counted world client more changed nodes trace ledger within calling ends grows counted = record {
  decided = grows.decided ∙ counted.decided;
  holders = grows.holders ∙ counted.holders;
  reads = grows.reads ∙ counted.reads ∙ sym (length-set world.clients client changed);
  each = λ other. by_set (IsCalling world.shape) world.clients client other changed (nobody world.shape) (λ same. calling) (counted.each other);
  beaten = λ slot place. omega (arith, counted.beaten slot place, grows.beaten slot place, ends, sum_by-set calls_ended world.clients client changed (nobody world.shape) within);
}

invokes-counted : (world : World) (client : ℕ) (call : Call) → refusal world (Invoke client call) ≡ None → StandsWell world → IsCounted world → IsCounted (invokes world client call)
invokes-counted world client call none stands counted =
    let allowed = call-allowed world client call none in
    let same = (stands.each client allowed.0 allowed.1).member.same_shape in
    let most = (counted.each client).most in
    let room : (client_at world client).number < world.shape.calls = at_most (client_at world client).number (client_at world client).shape.calls world.shape.calls (ap (λ (s : Sizes). s.calls) same) allowed.3 most in
    let changed = invoked (client_at world client) (operation_of call) (key_of call) (value_of call) in
    changed-counted world client 0 changed world.nodes (invokes world client call).trace world.ledger allowed.1
    (invoked-calling world.shape (client_at world client) (operation_of call) (key_of call) (value_of call) room)
    (omega (arith, calls_ended-invoked (client_at world client) (operation_of call) (key_of call) (value_of call) allowed.2))
    (stays world.ledger) counted
  where
    at_most : (number own calls : ℕ) → own ≡ calls → number ≢ own → number ≤ calls → number < calls
    at_most number own calls same differ most = omega arith

acts-counted : (late : Bool) (world : World) (client : ℕ) (rest : Option Refused) → of_client world client (of_step world client rest) ≡ None → StandsWell world → IsCounted world → IsCounted (acts late world client)
acts-counted late world client rest none stands counted =
    let allowed = step-allowed world client rest none in
    let here = client_at world client in
    let answer = answer_of late world client in
    let calling = counted.each client in
    changed-counted world client (ended_by (told here answer)) (after here answer) (nodes_after late world client) (acts late world client).trace (acts late world client).ledger allowed.1
    (after-calling world.shape client here answer (stands.each client allowed.0 allowed.1) allowed.2 calling)
    (calls_ended-after here answer allowed.2 (calling.begun allowed.2))
    (answer-grows world (nodes_after late world client) here answer (told here answer)) counted

-- the clients stay, and no more beaten calls are counted
kept-counted : (world : World) (nodes : List (List ℕ)) (master : Master) (stopped : List ℕ) (trace : List Moment) (ledger : Ledger) (events : ℕ) → Grows 0 world.ledger ledger → IsCounted world
    → IsCounted (record world { nodes = nodes; master = master; stopped = stopped; trace = trace; ledger = ledger; events = events })
unfolding client_at
kept-counted world nodes master stopped trace ledger events grows counted = record {
  decided = grows.decided ∙ counted.decided;
  holders = grows.holders ∙ counted.holders;
  reads = grows.reads ∙ counted.reads;
  each = counted.each;
  beaten = λ slot place. omega (arith, counted.beaten slot place, grows.beaten slot place);
}

works_on-counted : (world : World) (task : TaskState) → IsCounted world → IsCounted (works_on world task)
works_on-counted world NoTask counted = counted
works_on-counted world (Settles settling) counted =
    let answer = answer_to world.nodes (settlings.next settling) true in
    let now = words_after world.nodes (settlings.next settling) true in
    kept-counted world now _ world.stopped world.trace _ (world.events + 1)
    (either (opens (settlings.turn settling answer).told) 0 world.ledger (with_opening world now world.ledger) world.ledger (opening-grows world now world.ledger) (stays world.ledger)) counted
works_on-counted world (Recovers recovery) counted =
    let now = words_after world.nodes (recoveries.next recovery) true in
    kept-counted world now _ world.stopped world.trace _ (world.events + 1)
    (final-grows world.shape world.nodes now world.events (caller_of (client_at world recovery.client)) (final_of_recovery recovery.stage) world.ledger) counted
works_on-counted world (Joins joining) counted = kept-counted world _ _ world.stopped world.trace world.ledger (world.events + 1) (stays world.ledger) counted

occurs-counted : (world : World) (event : Event) → refusal world event ≡ None → StandsWell world → IsCounted world → IsCounted (occurs world event)
occurs-counted world Register none stands counted = registers-counted world counted
occurs-counted world (Invoke client call) none stands counted = invokes-counted world client call none stands counted
occurs-counted world (Step client) none stands counted = acts-counted false world client None none stands counted
occurs-counted world (Late client) none stands counted = acts-counted true world client (of_late world client) none stands counted
occurs-counted world (Stop client) none stands counted = kept-counted world world.nodes world.master _ _ world.ledger (world.events + 1) (stays world.ledger) counted
occurs-counted world (Lose node) none stands counted = kept-counted world _ world.master world.stopped world.trace world.ledger (world.events + 1) (stays world.ledger) counted
occurs-counted world (Fill node word) none stands counted = kept-counted world _ world.master world.stopped world.trace world.ledger (world.events + 1) (stays world.ledger) counted
occurs-counted world (Choose task) none stands counted = kept-counted world world.nodes _ world.stopped world.trace world.ledger (world.events + 1) (stays world.ledger) counted
occurs-counted world Work none stands counted = works_on-counted world world.master.task counted

-- it is kept at each event
pub happens-counted : (world : World) (event : Event) → StandsWell world → IsCounted world → IsCounted (happens world event)
happens-counted world event stands counted = by (refusal world event) refl
  where
    by : (reason : Option Refused) → refusal world event ≡ reason → IsCounted (happens world event)
    by None is = rw is (occurs-counted world event is stands counted)
    by (Some reason) is = rw is counted

run_from-counted : (world : World) (events : List Event) → StandsWell world → IsCounted world → IsCounted (run_from world events)
unfolding run_from
run_from-counted world [] stands counted = counted
run_from-counted world (event ∷ events) stands counted = run_from-counted (happens world event) events (happens-stands world event stands) (happens-counted world event stands counted)

-- and so in each run
pub run-counted : (sizes : Sizes) (events : List Event) → IsWithinLimits sizes → IsCounted (run sizes events)
unfolding run
run-counted sizes events limits = run_from-counted (first_world sizes) events (first_world-stands sizes limits) (first_world-counted sizes)
