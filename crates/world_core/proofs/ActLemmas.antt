-- A client's verb as an event of the world.
use Rattle.std.proofs.Common.{◌≡◌, ℕ, zero, suc, ◌+◌, ◌-◌, ◌≤◌, Bool, true, false, List, ◌∷◌, ◌++◌, None, refl, sym, ap, subst, ◌∙◌, arith}
use Rattle.std.specs.Prelude.{slice_index_or, slice_set}
use Rattle.machine.specs.Client.{after, next, told}
use Rattle.machine.specs.declared.client_call.Step.{Step}
use Rattle.machine.specs.Stage.{Client}
use Rattle.machine_world.specs.Events.{acts, moments_of, occurs, seen_by, step_of, verb_event}
use Rattle.machine_world.specs.Refusals.{refusal}
use Rattle.machine_world.specs.World.{Ledger, World, client_at, nobody}
use Rattle.machine_world.specs.declared.outcomes.Actor.TheVariants as actor
use Rattle.machine_world.specs.declared.outcomes.Happened.TheVariants as happened
use Rattle.map_model.specs.Trace.{Moment}
use Rattle.verb_words.specs.declared.verbs.Answer.{Answer}
use Rattle.verb_words.specs.declared.verbs.Verb.{Verb}
use Rattle.world_core.specs.Reached.{IsRun}
use Rattle.world_core.specs.Steps.{answer_for, client_in, ledger_for, nodes_for}
use Rattle.world_core.proofs.ReachedLemmas.{occurs-run}

-- client c stands at place c - 1 of the program's list
pub own-client : (world : World) (clients : List Client) (client : ℕ) → world.clients ≡ nobody world.shape ∷ clients → 1 ≤ client
    → client_in world.shape clients (client - 1) ≡ client_at world client
unfolding client_at
own-client world clients zero all least = absurd (omega (arith, least))
own-client world clients (suc k) all least =
    let before : suc k - 1 ≡ k = omega arith in
    ap (client_in world.shape clients) before ∙ ap (λ list. slice_index_or list (suc k) (nobody world.shape)) (sym all)

pub set-own : (nobody_first changed : Client) (clients : List Client) (client : ℕ) → 1 ≤ client → nobody_first ∷ slice_set clients (client - 1) changed ≡ slice_set (nobody_first ∷ clients) client changed
set-own nobody_first changed clients zero least = absurd (omega (arith, least))
set-own nobody_first changed clients (suc k) least =
    let before : suc k - 1 ≡ k = omega arith in
    ap (λ at. nobody_first ∷ slice_set clients at changed) before

pub acted : (late : Bool) (world : World) (clients : List Client) (client : ℕ) (now : List (List ℕ)) (changed : List Client) (trace : List Moment) (ledger : Ledger)
    → world.clients ≡ nobody world.shape ∷ clients → 1 ≤ client
    → now ≡ nodes_for late world.nodes (client_in world.shape clients (client - 1))
    → changed ≡ slice_set clients (client - 1) (after (client_in world.shape clients (client - 1)) (answer_for late world.nodes (client_in world.shape clients (client - 1))))
    → trace ≡ world.trace ++ moments_of (client_in world.shape clients (client - 1)) (told (client_in world.shape clients (client - 1)) (answer_for late world.nodes (client_in world.shape clients (client - 1))))
    → ledger ≡ ledger_for world.shape world.nodes now world.events (client_in world.shape clients (client - 1)) (answer_for late world.nodes (client_in world.shape clients (client - 1))) world.ledger
    → record {
      shape = world.shape;
      nodes = now;
      clients = nobody world.shape ∷ changed;
      master = world.master;
      stopped = world.stopped;
      trace = trace;
      ledger = ledger;
      events = world.events + 1;
    } ≡ acts late world client
acted late world clients client now changed trace ledger all least is_now is_changed is_trace is_ledger =
    let me : Client = client_in world.shape clients (client - 1) in
    let own : me ≡ client_at world client = own-client world clients client all least in
    let all_changed : nobody world.shape ∷ changed ≡ slice_set world.clients client (after me (answer_for late world.nodes me)) =
    ap (λ list. nobody world.shape ∷ list) is_changed ∙ set-own (nobody world.shape) (after me (answer_for late world.nodes me)) clients client least
    ∙ ap (λ list. slice_set list client (after me (answer_for late world.nodes me))) (sym all) in
    let noted : ledger ≡ ledger_for world.shape world.nodes (nodes_for late world.nodes me) world.events me (answer_for late world.nodes me) world.ledger =
    is_ledger ∙ ap (λ nodes. ledger_for world.shape world.nodes nodes world.events me (answer_for late world.nodes me) world.ledger) is_now in
    let first : record {
      shape = world.shape;
      nodes = now;
      clients = nobody world.shape ∷ changed;
      master = world.master;
      stopped = world.stopped;
      trace = trace;
      ledger = ledger;
      events = world.events + 1;
    } ≡ acted_by late world client me = λ i. record {
      shape = world.shape;
      nodes = is_now i;
      clients = all_changed i;
      master = world.master;
      stopped = world.stopped;
      trace = is_trace i;
      ledger = noted i;
      events = world.events + 1;
    } in
    first ∙ ap (acted_by late world client) own
  where
    acted_by : Bool → World → ℕ → Client → World
    acted_by late world client me = record {
      shape = world.shape;
      nodes = nodes_for late world.nodes me;
      clients = slice_set world.clients client (after me (answer_for late world.nodes me));
      master = world.master;
      stopped = world.stopped;
      trace = world.trace ++ moments_of me (told me (answer_for late world.nodes me));
      ledger = ledger_for world.shape world.nodes (nodes_for late world.nodes me) world.events me (answer_for late world.nodes me) world.ledger;
      events = world.events + 1;
    }

pub occurs-verb : (late : Bool) (world : World) (client : ℕ) → occurs world (verb_event late client) ≡ acts late world client
occurs-verb true world client = refl
occurs-verb false world client = refl

pub acts-run : (late : Bool) (world : World) (client : ℕ) → refusal world (verb_event late client) ≡ None → IsRun world → IsRun (acts late world client)
acts-run late world client none is = subst IsRun (occurs-verb late world client) (occurs-run world (verb_event late client) none is)

-- what the verb comes to
pub stepped : (late : Bool) (world : World) (clients : List Client) (client : ℕ) (verb : Verb) (answer : Answer) (step : Step) → world.clients ≡ nobody world.shape ∷ clients → 1 ≤ client
    → verb ≡ next (client_in world.shape clients (client - 1))
    → answer ≡ answer_for late world.nodes (client_in world.shape clients (client - 1))
    → step ≡ told (client_in world.shape clients (client - 1)) (answer_for late world.nodes (client_in world.shape clients (client - 1)))
    → happened.Stepped (seen_by (actor.Client client) verb answer) step ≡ step_of late world client
stepped late world clients client verb answer step all least is_verb is_answer is_step =
    let own = own-client world clients client all least in
    (λ i. happened.Stepped (seen_by (actor.Client client) (is_verb i) (is_answer i)) (is_step i))
    ∙ ap (λ me. happened.Stepped (seen_by (actor.Client client) (next me) (answer_for late world.nodes me)) (told me (answer_for late world.nodes me))) own
