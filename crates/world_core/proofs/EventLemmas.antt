-- What the events make of the world, over what the world is made of.
use Rattle.std.proofs.Common.{◌≡◌, ℕ, zero, suc, ◌+◌, ◌-◌, ◌<◌, ◌≤◌, ◌==◌, Bool, true, false, List, [], ◌∷◌, ◌++◌, drop, length, get_or, Option, Some, None, refl, sym, ap, ◌∙◌, arith, length-set}
use Rattle.std.specs.Prelude.{replicate, slice_set}
use Rattle.std.proofs.lemmas.Bool.Decides.{nat_tests}
use Rattle.std.proofs.lemmas.List.{get_or-map, get_or-replicate, get_or-set_same, length-map, set-get_or, set-set}
use Rattle.std.proofs.Math.ListN.{length-replicate}
use Rattle.machine.specs.Client.{invoked, is_idle, refusal as refusal_of_call}
use Rattle.machine.specs.declared.client_call.Before.{Before}
use Rattle.machine.specs.Stage.{Client}
use Rattle.machine_world.specs.Calls.{key_of, operation_of, value_of}
use Rattle.machine_world.specs.Events.{invokes}
use Rattle.machine_world.specs.Refusals.{is_node, of_call, of_lengths, of_outside, refusal}
use Rattle.machine_world.specs.World.{World, client_at, nobody}
use Rattle.machine_world.specs.declared.events.Event.TheVariants as event
use Rattle.machine_world.specs.declared.outcomes.Refused.{Refused}
use Rattle.machine_world.specs.declared.outcomes.Refused.TheVariants as refused
use Rattle.map_model.specs.declared.calls.Call.{Call}
use Rattle.map_model.specs.Trace.{Invoked, Moment}
use Rattle.machine_world.specs.Standing.{StandsWell}
use Rattle.region_view.specs.Sizes.{node_words}
use Rattle.verb_words.specs.Applied.{words_after}
use Rattle.verb_words.specs.Words.{HasPlace, words_on}
use Rattle.verb_words.specs.declared.verbs.Verb.TheVariants.{Write}
use Rattle.world_core.specs.Reached.{IsRun}
use Rattle.world_core.specs.Steps.{client_in}
use Rattle.world_core.proofs.ActLemmas.{own-client, set-own}
use Rattle.world_core.proofs.AllowedLemmas.{client-allowed}
use Rattle.world_core.proofs.KeptLemmas.{run-keeps}
use Rattle.world_core.proofs.ReachedLemmas.{occurs-run}

-- where a client may be registered, fewer than all are
pub room-left : (world : World) → IsRun world → refusal world event.Register ≡ None → length world.clients ≤ world.shape.clients
room-left world is none = by (length world.clients == world.shape.clients + 1) refl
  where
    by : (t : Bool) → (length world.clients == world.shape.clients + 1) ≡ t → length world.clients ≤ world.shape.clients
    by true full = let bad : Some (refused.Clients world.shape.clients) ≡ None = sym (rw full refl) ∙ none in absurd cc
    by false more = let few = is.stands.few in grind (arith, nat_tests)

pub reads-left : (world : World) → IsRun world → refusal world event.Register ≡ None → length world.ledger.reads < 65
reads-left world is none = omega (arith, (run-keeps world is).reads, room-left world is none, is.stands.limits.clients)

-- Calls.

-- a call that is not refused is one that the client may make
pub call-taken : (world : World) (client : ℕ) (call : Call) → refusal world (event.Invoke client call) ≡ None
    → (is_idle (client_at world client) ≡ true) × (refusal_of_call (client_at world client) (length (key_of call)) (length (value_of call)) ≡ None)
call-taken world client call none =
    by (is_idle (client_at world client)) refl (refusal_of_call (client_at world client) (length (key_of call)) (length (value_of call))) refl (client-allowed world client (of_call world client call) none).3
  where
    by : (t : Bool) → is_idle (client_at world client) ≡ t → (why : Option Before) → refusal_of_call (client_at world client) (length (key_of call)) (length (value_of call)) ≡ why → of_call world client call ≡ None
        → (is_idle (client_at world client) ≡ true) × (refusal_of_call (client_at world client) (length (key_of call)) (length (value_of call)) ≡ None)
    by true idle None fits left = (idle, fits)
    by true idle (Some why) refuses left = let bad : Some (of_lengths client why) ≡ None = sym (rw (idle, refuses) refl) ∙ left in absurd cc
    by false busy why other left = let bad : Some (refused.Busy client) ≡ None = sym (rw busy refl) ∙ left in absurd cc

pub invoked-world : (world : World) (clients : List Client) (client : ℕ) (call : Call) (actor : Client) (trace : List Moment) → world.clients ≡ nobody world.shape ∷ clients → 1 ≤ client
    → actor ≡ invoked (client_in world.shape clients (client - 1)) (operation_of call) (key_of call) (value_of call)
    → trace ≡ world.trace ++ Invoked client ((client_in world.shape clients (client - 1)).number + 1) call ∷ []
    → record {
      shape = world.shape;
      nodes = world.nodes;
      clients = nobody world.shape ∷ slice_set clients (client - 1) actor;
      master = world.master;
      stopped = world.stopped;
      trace = trace;
      ledger = world.ledger;
      events = world.events + 1;
    } ≡ invokes world client call
invoked-world world clients client call actor trace all least is_actor is_trace =
    let own = own-client world clients client all least in
    let changed : nobody world.shape ∷ slice_set clients (client - 1) actor ≡ slice_set world.clients client (invoked (client_at world client) (operation_of call) (key_of call) (value_of call)) =
    set-own (nobody world.shape) actor clients client least ∙ ap (λ list. slice_set list client actor) (sym all)
    ∙ ap (slice_set world.clients client) (is_actor ∙ ap (λ me. invoked me (operation_of call) (key_of call) (value_of call)) own) in
    let told : trace ≡ world.trace ++ Invoked client ((client_at world client).number + 1) call ∷ [] =
    is_trace ∙ ap (λ (me : Client). world.trace ++ Invoked client (me.number + 1) call ∷ []) own in
    λ i. record {
      shape = world.shape;
      nodes = world.nodes;
      clients = changed i;
      master = world.master;
      stopped = world.stopped;
      trace = told i;
      ledger = world.ledger;
      events = world.events + 1;
    }

pub invokes-run : (world : World) (client : ℕ) (call : Call) → refusal world (event.Invoke client call) ≡ None → IsRun world → IsRun (invokes world client call)
invokes-run world client call none is = occurs-run world (event.Invoke client call) none is

-- Filling.

filled : (words : List ℕ) (k word : ℕ) → k < length words → slice_set (replicate k word ++ drop k words) k word ≡ replicate (suc k) word ++ drop (suc k) words
filled [] k word within = absurd (omega (arith, within))
filled (first ∷ words) zero word within = refl
filled (first ∷ words) (suc k) word within = ap (λ rest. word ∷ rest) (filled words k word (omega (arith, within)))

length-filled : (words : List ℕ) (k word : ℕ) → k ≤ length words → length (replicate k word ++ drop k words) ≡ length words
length-filled words zero word within = refl
length-filled [] (suc k) word within = absurd (omega (arith, within))
length-filled (first ∷ words) (suc k) word within = ap suc (length-filled words k word (omega (arith, within)))

all-filled : (words : List ℕ) (k word : ℕ) → length words ≡ k → replicate k word ++ drop k words ≡ replicate (length words) word
all-filled [] zero word is = refl
all-filled [] (suc k) word is = absurd (omega (arith, is))
all-filled (first ∷ words) zero word is = absurd (omega (arith, is))
all-filled (first ∷ words) (suc k) word is = ap (λ rest. word ∷ rest) (all-filled words k word (omega (arith, is)))

-- a node with so many words written, and the rest as they were
abbrev pub filled_up_to : List (List ℕ) → ℕ → ℕ → ℕ → List (List ℕ)
filled_up_to nodes node k word = slice_set nodes node (replicate k word ++ drop k (words_on nodes node))

words_on-filled : (nodes : List (List ℕ)) (node k word : ℕ) → node < length nodes → words_on (filled_up_to nodes node k word) node ≡ replicate k word ++ drop k (words_on nodes node)
words_on-filled nodes node k word within = get_or-set_same nodes node (replicate k word ++ drop k (words_on nodes node)) [] within

pub place-filled : (nodes : List (List ℕ)) (node k word : ℕ) → node < length nodes → k < length (words_on nodes node) → HasPlace (filled_up_to nodes node k word) (record { node = node; at = k })
place-filled nodes node k word within more = record {
  node = omega (arith, within, length-set nodes node (replicate k word ++ drop k (words_on nodes node)));
  at = omega (arith, more, ap length (words_on-filled nodes node k word within), length-filled (words_on nodes node) k word (omega (arith, more)));
}

pub one-filled : (nodes : List (List ℕ)) (node k word : ℕ) → node < length nodes → k < length (words_on nodes node)
    → words_after (filled_up_to nodes node k word) (Write (record { node = node; at = k }) word) false ≡ filled_up_to nodes node (k + 1) word
one-filled nodes node k word within more =
    let next : suc k ≡ k + 1 = omega arith in
    ap (λ words. slice_set (filled_up_to nodes node k word) node (slice_set words k word)) (words_on-filled nodes node k word within)
    ∙ set-set nodes node (replicate k word ++ drop k (words_on nodes node)) (slice_set (replicate k word ++ drop k (words_on nodes node)) k word)
    ∙ ap (slice_set nodes node) (filled (words_on nodes node) k word more)
    ∙ ap (λ n. filled_up_to nodes node n word) next

pub none-filled : (nodes : List (List ℕ)) (node word : ℕ) → node < length nodes → nodes ≡ filled_up_to nodes node 0 word
none-filled nodes node word within = sym (set-get_or nodes node [])

pub whole-filled : (nodes : List (List ℕ)) (node k word : ℕ) → length (words_on nodes node) ≡ k → filled_up_to nodes node k word ≡ slice_set nodes node (replicate (length (words_on nodes node)) word)
whole-filled nodes node k word is = ap (slice_set nodes node) (all-filled (words_on nodes node) k word is)

-- A memory node has so many words.
pub node-there : (world : World) (node : ℕ) → StandsWell world → 1 ≤ node → node ≤ world.shape.nodes → (node < length world.nodes) × (length (words_on world.nodes node) ≡ node_words world.shape)
node-there world node stands least most = (omega (arith, count, most), at node least most)
  where
    count : length world.nodes ≡ 1 + world.shape.nodes
    count = sym (length-map world.nodes length) ∙ ap length stands.words ∙ omega (arith, length-replicate {A = ℕ} world.shape.nodes (node_words world.shape))

    at : (node : ℕ) → 1 ≤ node → node ≤ world.shape.nodes → length (words_on world.nodes node) ≡ node_words world.shape
    at (suc node) least most =
        sym (get_or-map length world.nodes (suc node) [] 0 (omega (arith, count)))
        ∙ ap (λ sizes. get_or sizes (suc node) 0) stands.words
        ∙ get_or-replicate world.shape.nodes node (node_words world.shape) 0 (omega arith)
    at zero least most = absurd (omega arith)

pub outside-node : (world : World) (node : ℕ) (rest : Option Refused) → of_outside world node rest ≡ None → (1 ≤ node) × (node ≤ world.shape.nodes)
outside-node world node rest none = by (is_node world node) refl
  where
    by : (t : Bool) → is_node world node ≡ t → (1 ≤ node) × (node ≤ world.shape.nodes)
    by true known = (grind (arith, nat_tests), grind (arith, nat_tests))
    by false unknown = let bad : Some (refused.Node node) ≡ None = sym (rw unknown refl) ∙ none in absurd cc
