-- The world stands well after every run.
use Rattle.std.proofs.Common.{◌≡◌, ◌≢◌, ℕ, zero, suc, ◌+◌, ◌-◌, ◌*◌, ◌^◌, ◌<◌, ◌≤◌, ◌==◌, ◌⊎◌, inl, inr, Bool, true, false, ◌&&◌, List, [], ◌∷◌, ◌++◌, length, map, get_or, Option, Some, None, refl, sym, ap, subst, ◌∙◌, arith, length-append, length-set, suc-mul}
use Rattle.std.specs.Prelude.{nat_le, nat_lt, not, replicate, slice_index_or, slice_set}
use Rattle.std.proofs.Math.ListN.{get_or-append, length-replicate}
use Rattle.std.proofs.Math.Seq.{get_or-append_seam}
use Rattle.std.proofs.lemmas.Bool.{cases_lt}
use Rattle.std.proofs.lemmas.List.{get_or-map, get_or-replicate, get_or-set_other, get_or-set_same, length-map}
use Rattle.std.proofs.lemmas.Bool.Decides.{eqb_tells, nat_tests}
use Rattle.machine.specs.declared.client_call.Before.{Before}
use Rattle.machine.specs.declared.client_call.Before.TheVariants as before
use Rattle.machine.specs.declared.joining.Joined.{Joined}
use Rattle.machine.specs.declared.joining.Joined.TheVariants as joined
use Rattle.machine.specs.declared.recovery.Recovering.{Recovering}
use Rattle.machine.specs.declared.recovery.Recovering.TheVariants as recovering
use Rattle.machine.specs.declared.settling.Settled.{Settled}
use Rattle.machine.specs.declared.settling.Settled.TheVariants as settled
use Rattle.machine.specs.Client.{after, invoked, is_idle, refusal as refusal_of_call}
use Rattle.machine.specs.Joining as joinings
use Rattle.machine.specs.Joining.{IsJoining, Joining}
use Rattle.machine.specs.Places.{IsInPool}
use Rattle.machine.specs.Recovery as recoveries
use Rattle.machine.specs.RecoveryStage.{IsRecovery, Recovery}
use Rattle.machine.specs.Settling as settlings
use Rattle.machine.specs.Settling.{IsSettling, Settling}
use Rattle.machine.specs.Stage.{Client, first_client}
use Rattle.machine.specs.Standing.{IsClient}
use Rattle.machine.proofs.ClientTurnLemmas as of_client
use Rattle.machine.proofs.JoiningKept as of_joining
use Rattle.machine.proofs.RecoveryKept as of_recovery
use Rattle.machine.proofs.SettlingKept as of_settling
use Rattle.machine_world.specs.Calls.{key_of, operation_of, value_of}
use Rattle.machine_world.specs.Events.{acts, answer_of, chooses, fills, happens, invokes, joining_after, loses, occurs, recovery_after, registers, settling_after, stops, verb_of, verb_of_task, works_on}
use Rattle.machine_world.specs.Refusals.{is_node, of_call, of_client, of_lengths, of_outside, of_recovery, of_task, refusal}
use Rattle.machine_world.specs.Runs.{run, run_from}
use Rattle.machine_world.specs.Standing.{StandsWell, TaskStands, node_sizes}
use Rattle.machine_world.specs.World.{Joins, Ledger, Master, NoTask, Recovers, Settles, TaskState, World, client_at, first_world, is_registered, is_stopped, nobody}
use Rattle.machine_world.specs.declared.events.Event.{Event}
use Rattle.machine_world.specs.declared.events.Event.TheVariants.{Register, Invoke, Step, Late, Stop, Lose, Fill, Choose, Work}
use Rattle.machine_world.specs.declared.events.Task.{Task}
use Rattle.machine_world.specs.declared.events.Task.TheVariants.{Settle, Recover, Join}
use Rattle.machine_world.specs.declared.outcomes.Refused.{Refused}
use Rattle.machine_world.specs.declared.outcomes.Refused.TheVariants as refused
use Rattle.machine_world.proofs.EventLemmas.{occurs-lengths, words_after-lengths}
use Rattle.map_model.specs.declared.calls.Call.{Call}
use Rattle.object_form.specs.Class.{IsKeyLength}
use Rattle.object_form.specs.declared.classes.TheConstants.{LONGEST}
use Rattle.region_view.specs.Opening.{copies, first_node, first_region, first_words_of}
use Rattle.region_view.specs.Sizes.{IsWithinLimits, Sizes, node_words, region_words}
use Rattle.machine.proofs.StockLemmas.{some_same}
use Rattle.verb_words.specs.declared.verbs.Place.{Place}
use Rattle.verb_words.specs.declared.verbs.Verb.{Verb}
use Rattle.verb_words.specs.Applied.{answer_to}
use Rattle.verb_words.specs.Verb.{place_of}
use Rattle.verb_words.specs.Words.{HasPlace, words_on}

both : {A B C : Type 0} (f : A → B → C) {a a' : A} {b b' : B} → a ≡ a' → b ≡ b' → f a b ≡ f a' b'
both f p q = λ i. f (p i) (q i)

-- The opening.

length-copies : (n : ℕ) (words : List ℕ) → length (copies n words) ≡ n * length words
length-copies zero words = omega arith
length-copies (suc n) words = let rest = length-copies n words in let more = length-append (copies n words) words in grind (arith, suc-mul)

length-first_region : (sizes : Sizes) → IsWithinLimits sizes → length (first_region sizes) ≡ region_words sizes
length-first_region sizes limits =
    let zeros : List ℕ = replicate 64 0 in
    let bits : List ℕ = replicate sizes.blocks (2 ^ 64 - 1) in
    let rest : List ℕ = replicate (64 - sizes.blocks + 512 * sizes.blocks) 0 in
    length-append (zeros ++ bits) rest
    ∙ omega (arith, limits.blocks, length-append zeros bits, length-replicate {A = ℕ} 64 0, length-replicate {A = ℕ} sizes.blocks (2 ^ 64 - 1), length-replicate {A = ℕ} (64 - sizes.blocks + 512 * sizes.blocks) 0)

length-first_node : (sizes : Sizes) → IsWithinLimits sizes → length (first_node sizes) ≡ node_words sizes
length-first_node sizes limits =
    length-append (replicate (48 * sizes.groups) 0) (copies sizes.regions (first_region sizes))
    ∙ both (λ a b. a + b) (length-replicate {A = ℕ} (48 * sizes.groups) 0)
    (length-copies sizes.regions (first_region sizes) ∙ ap (λ n. sizes.regions * n) (length-first_region sizes limits))

map-replicate : (n : ℕ) (words : List ℕ) → map length (replicate n words) ≡ replicate n (length words)
map-replicate zero words = refl
map-replicate (suc n) words = ap (λ rest. length words ∷ rest) (map-replicate n words)

first_words-sizes : (sizes : Sizes) → IsWithinLimits sizes → map length (first_words_of sizes) ≡ node_sizes sizes
first_words-sizes sizes limits =
    both (λ a b. a ∷ b) (omega (arith, length-replicate {A = ℕ} 1039 0))
    (map-replicate sizes.nodes (first_node sizes) ∙ ap (replicate sizes.nodes) (length-first_node sizes limits))

pub first_world-stands : (sizes : Sizes) → IsWithinLimits sizes → StandsWell (first_world sizes)
first_world-stands sizes limits = record {
  limits = limits;
  words = first_words-sizes sizes limits;
  few = omega arith;
  each = λ client least under. absurd (omega arith);
  task = tt;
}

-- Reasons that are not there.

-- where no reason is left, the client is registered
registered : (world : World) (client : ℕ) (rest : Option Refused) → of_client world client rest ≡ None → (1 ≤ client) × (client < length world.clients) × (rest ≡ None)
registered world client rest none = by (is_registered world client) refl (is_stopped world client) refl
  where
    by : (t : Bool) → is_registered world client ≡ t → (u : Bool) → is_stopped world client ≡ u → (1 ≤ client) × (client < length world.clients) × (rest ≡ None)
    by true known true halted = let bad : Some (refused.Stopped client) ≡ None = sym (rw (known, halted) refl) ∙ none in absurd cc
    by true known false running = (grind (arith, nat_tests), grind (arith, nat_tests), sym (rw (known, running) refl) ∙ none)
    by false unknown u halted = let bad : Some (refused.Unknown client) ≡ None = sym (rw unknown refl) ∙ none in absurd cc

-- Clients.

with_client-stands : (world : World) (client : ℕ) (changed : Client) → StandsWell world → IsClient world.shape client changed → client < length world.clients
    → (other : ℕ) → 1 ≤ other → other < length (slice_set world.clients client changed) → IsClient world.shape other (slice_index_or (slice_set world.clients client changed) other (nobody world.shape))
unfolding client_at
with_client-stands world client changed stands is within other least under = by (eqb_tells other client)
  where
    by : (((other == client) ≡ true) × (other ≡ client)) ⊎ (((other == client) ≡ false) × (other ≢ client))
        → IsClient world.shape other (slice_index_or (slice_set world.clients client changed) other (nobody world.shape))
    by (inl (test, same)) =
        let P : ℕ → Type 0 = λ n. IsClient world.shape n (slice_index_or (slice_set world.clients client changed) n (nobody world.shape)) in
        subst P (sym same) (rw (get_or-set_same world.clients client changed (nobody world.shape) within) is)
    by (inr (test, differ)) = rw (get_or-set_other world.clients client other changed (nobody world.shape) differ) (stands.each other least (omega (arith, length-set world.clients client changed)))

-- Events.

registers-stands : (world : World) → refusal world Register ≡ None → StandsWell world → StandsWell (registers world)
unfolding client_at
registers-stands world none stands = record {
  limits = stands.limits;
  words = stands.words;
  few = omega (arith, length-append world.clients (first_client (length world.clients) world.shape ∷ []), room);
  each = each;
  task = stands.task;
}
  where
    room : length world.clients ≤ world.shape.clients
    room = by (length world.clients == world.shape.clients + 1) refl
      where
        by : (t : Bool) → (length world.clients == world.shape.clients + 1) ≡ t → length world.clients ≤ world.shape.clients
        by true full = let bad : Some (refused.Clients world.shape.clients) ≡ None = sym (rw full refl) ∙ none in absurd cc
        by false more = let few = stands.few in grind (arith, nat_tests)

    each : (client : ℕ) → 1 ≤ client → client < length (registers world).clients → IsClient world.shape client (client_at (registers world) client)
    each client least under = by (cases_lt client (length world.clients))
      where
        by : (client < length world.clients) ⊎ (length world.clients ≤ client) → IsClient world.shape client (client_at (registers world) client)
        by (inl before) = rw (get_or-append world.clients (first_client (length world.clients) world.shape ∷ []) (nobody world.shape) client before) (stands.each client least before)
        by (inr after) =
            let last : client ≡ length world.clients = omega (arith, length-append world.clients (first_client (length world.clients) world.shape ∷ [])) in
            let P : ℕ → Type 0 = λ n. IsClient world.shape n (slice_index_or (world.clients ++ first_client (length world.clients) world.shape ∷ []) n (nobody world.shape)) in
            subst P (sym last)
            (rw (get_or-append_seam world.clients (first_client (length world.clients) world.shape) [] (nobody world.shape))
            (of_client.first_client-is world.shape (length world.clients) stands.limits (omega arith) room))

-- one client is changed, and whatever else does not matter
client-stands : (world : World) (client : ℕ) (changed : Client) → StandsWell world → IsClient world.shape client changed → client < length world.clients
    → (other : ℕ) → 1 ≤ other → other < length (slice_set world.clients client changed) → IsClient world.shape other (client_at (record world { clients = slice_set world.clients client changed }) other)
unfolding client_at
client-stands world client changed stands is within = with_client-stands world client changed stands is within

-- a call that is not refused has lengths that are taken
lengths_taken : (client : Client) (key_len value_len : ℕ) → refusal_of_call client key_len value_len ≡ None → IsKeyLength key_len × (value_len ≤ LONGEST)
lengths_taken client key_len value_len none = by (nat_lt 0 key_len && nat_le key_len 64) refl (nat_le value_len LONGEST) refl
  where
    by : (t : Bool) → (nat_lt 0 key_len && nat_le key_len 64) ≡ t → (u : Bool) → nat_le value_len LONGEST ≡ u → IsKeyLength key_len × (value_len ≤ LONGEST)
    by true key true value = ((grind (arith, nat_tests), grind (arith, nat_tests)), grind (arith, nat_tests))
    by true key false value = let bad : Some (before.ValueLength value_len) ≡ None = sym (rw (key, value) refl) ∙ none in absurd cc
    by false key u value = let bad : Some (before.KeyLength key_len) ≡ None = sym (rw key refl) ∙ none in absurd cc

lengths-fit : (world : World) (client : ℕ) (call : Call) → of_call world client call ≡ None → IsKeyLength (length (key_of call)) × (length (value_of call) ≤ LONGEST)
lengths-fit world client call none = by (is_idle (client_at world client)) refl (refusal_of_call (client_at world client) (length (key_of call)) (length (value_of call))) refl
  where
    by : (t : Bool) → is_idle (client_at world client) ≡ t → (why : Option Before) → refusal_of_call (client_at world client) (length (key_of call)) (length (value_of call)) ≡ why
        → IsKeyLength (length (key_of call)) × (length (value_of call) ≤ LONGEST)
    by true idle None fits = lengths_taken (client_at world client) (length (key_of call)) (length (value_of call)) fits
    by true idle (Some why) refuses = let bad : Some (of_lengths client why) ≡ None = sym (rw (idle, refuses) refl) ∙ none in absurd cc
    by false busy why other = let bad : Some (refused.Busy client) ≡ None = sym (rw busy refl) ∙ none in absurd cc

acts-stands : (late : Bool) (world : World) (client : ℕ) → StandsWell world → 1 ≤ client → client < length world.clients → StandsWell (acts late world client)
unfolding client_at
acts-stands late world client stands least within = record {
  limits = stands.limits;
  words = words_after-lengths world.nodes (verb_of world client) (not late) ∙ stands.words;
  few = omega (arith, length-set world.clients client (after (client_at world client) (answer_of late world client)), stands.few);
  each = with_client-stands world client (after (client_at world client) (answer_of late world client)) stands
      (of_client.turn-is world.shape client (client_at world client) (answer_of late world client) (stands.each client least within)) within;
  task = stands.task;
}

invokes-stands : (world : World) (client : ℕ) (call : Call) → refusal world (Invoke client call) ≡ None → StandsWell world → StandsWell (invokes world client call)
unfolding client_at
invokes-stands world client call none stands =
    let known = registered world client (of_call world client call) none in
    let fits = lengths-fit world client call known.2 in
    let changed = invoked (client_at world client) (operation_of call) (key_of call) (value_of call) in
    record {
      limits = stands.limits;
      words = stands.words;
      few = omega (arith, length-set world.clients client changed, stands.few);
      each = with_client-stands world client changed stands
          (of_client.invoked-is world.shape client (client_at world client) (operation_of call) (key_of call) (value_of call) (stands.each client known.0 known.1) fits.0 fits.1) known.1;
      task = stands.task;
    }

-- The master.

settling_after-stands : (sizes : Sizes) (settling : Settling) (told : Settled) → IsSettling sizes settling → TaskStands sizes (settling_after settling told)
settling_after-stands sizes settling settled.Going is = is
settling_after-stands sizes settling (settled.Opened word) is = tt
settling_after-stands sizes settling (settled.NotYet client begin) is = is

-- a recovery stays one of its client
same_client : (sizes : Sizes) (client : ℕ) (recovery : Recovery) → IsRecovery sizes client recovery → IsRecovery sizes recovery.client recovery
same_client sizes client recovery is = let P : ℕ → Type 0 = λ n. IsRecovery sizes n recovery in subst P (sym is.same_client) is

recovery_after-stands : (sizes : Sizes) (recovery : Recovery) (told : Recovering) → IsRecovery sizes recovery.client recovery → TaskStands sizes (recovery_after recovery told)
recovery_after-stands sizes recovery recovering.Going is = is
recovery_after-stands sizes recovery recovering.Recovered is = tt
recovery_after-stands sizes recovery (recovering.NotYet reason) is = tt

joining_after-stands : (sizes : Sizes) (joining : Joining) (told : Joined) → IsJoining sizes joining → TaskStands sizes (joining_after joining told)
joining_after-stands sizes joining joined.Going is = is
joining_after-stands sizes joining joined.Joined is = tt
joining_after-stands sizes joining (joined.NotYet reason) is = tt

with_task-stands : (world : World) (nodes : List (List ℕ)) (master : Master) (ledger : Ledger) (events : ℕ) → StandsWell world → map length nodes ≡ map length world.nodes → TaskStands world.shape master.task
    → StandsWell (record world { nodes = nodes; master = master; ledger = ledger; events = events })
unfolding client_at
with_task-stands world nodes master ledger events stands lengths task = record { limits = stands.limits; words = lengths ∙ stands.words; few = stands.few; each = stands.each; task = task }

works_on-stands : (world : World) (task : TaskState) → TaskStands world.shape task → StandsWell world → StandsWell (works_on world task)
works_on-stands world NoTask has stands = stands
works_on-stands world (Settles settling) has stands =
    let answer = answer_to world.nodes (settlings.next settling) true in
    with_task-stands world _ _ _ _ stands (words_after-lengths world.nodes (settlings.next settling) true)
    (settling_after-stands world.shape (settlings.turn settling answer).state (settlings.turn settling answer).told (of_settling.turn-is world.shape settling answer has))
works_on-stands world (Recovers recovery) has stands =
    let answer = answer_to world.nodes (recoveries.next recovery) true in
    with_task-stands world _ _ _ _ stands (words_after-lengths world.nodes (recoveries.next recovery) true)
    (recovery_after-stands world.shape (recoveries.turn recovery answer).state (recoveries.turn recovery answer).told
    (same_client world.shape recovery.client (recoveries.turn recovery answer).state (of_recovery.turn-is world.shape recovery.client recovery answer has)))
works_on-stands world (Joins joining) has stands =
    let answer = answer_to world.nodes (joinings.next joining) true in
    with_task-stands world _ _ _ _ stands (words_after-lengths world.nodes (joinings.next joining) true)
    (joining_after-stands world.shape (joinings.turn joining answer).state (joinings.turn joining answer).told (of_joining.turn-is world.shape joining answer has))

-- a client whose recovery is not refused is registered, and a node whose joining is not refused is a node
recovery-known : (world : World) (client : ℕ) → of_recovery world client ≡ None → (1 ≤ client) × (client < length world.clients)
recovery-known world client none = by (is_registered world client) refl
  where
    by : (t : Bool) → is_registered world client ≡ t → (1 ≤ client) × (client < length world.clients)
    by true known = (grind (arith, nat_tests), grind (arith, nat_tests))
    by false unknown = let bad : Some (refused.Unknown client) ≡ None = sym (rw unknown refl) ∙ none in absurd cc

outside-known : (world : World) (node : ℕ) (rest : Option Refused) → of_outside world node rest ≡ None → (1 ≤ node) × (node ≤ world.shape.nodes)
outside-known world node rest none = by (is_node world node) refl
  where
    by : (t : Bool) → is_node world node ≡ t → (1 ≤ node) × (node ≤ world.shape.nodes)
    by true known = (grind (arith, nat_tests), grind (arith, nat_tests))
    by false unknown = let bad : Some (refused.Node node) ≡ None = sym (rw unknown refl) ∙ none in absurd cc

chooses-stands : (world : World) (task : Task) → of_task world task ≡ None → StandsWell world → StandsWell (chooses world task)
chooses-stands world Settle none stands = with_task-stands world world.nodes _ world.ledger (world.events + 1) stands refl (of_settling.settling_of-is world.shape _ stands.limits)
chooses-stands world (Recover client) none stands =
    let known = recovery-known world client none in
    with_task-stands world world.nodes _ world.ledger (world.events + 1) stands refl
    (of_recovery.recovery_of-is client world.shape stands.limits known.0 (omega (arith, known.1, stands.few)))
chooses-stands world (Join node) none stands =
    let known = outside-known world node None none in
    with_task-stands world world.nodes _ world.ledger (world.events + 1) stands refl (of_joining.joining_of-is world.shape node stands.limits known.0 known.1)

-- What leaves clients and task as they are.

stops-stands : (world : World) (client : ℕ) → StandsWell world → StandsWell (stops world client)
unfolding client_at
stops-stands world client stands = record { limits = stands.limits; words = stands.words; few = stands.few; each = stands.each; task = stands.task }

with_nodes-stands : (world : World) (nodes : List (List ℕ)) → map length nodes ≡ map length world.nodes → StandsWell world → StandsWell (record world { nodes = nodes; events = world.events + 1 })
unfolding client_at
with_nodes-stands world nodes lengths stands = record { limits = stands.limits; words = lengths ∙ stands.words; few = stands.few; each = stands.each; task = stands.task }

occurs-stands : (world : World) (event : Event) → refusal world event ≡ None → StandsWell world → StandsWell (occurs world event)
occurs-stands world Register none stands = registers-stands world none stands
occurs-stands world (Invoke client call) none stands = invokes-stands world client call none stands
occurs-stands world (Step client) none stands = let known = registered world client _ none in acts-stands false world client stands known.0 known.1
occurs-stands world (Late client) none stands = let known = registered world client _ none in acts-stands true world client stands known.0 known.1
occurs-stands world (Stop client) none stands = stops-stands world client stands
occurs-stands world (Lose node) none stands = with_nodes-stands world (loses world node).nodes (occurs-lengths world (Lose node)) stands
occurs-stands world (Fill node word) none stands = with_nodes-stands world (fills world node word).nodes (occurs-lengths world (Fill node word)) stands
occurs-stands world (Choose task) none stands = chooses-stands world task none stands
occurs-stands world Work none stands = works_on-stands world world.master.task stands.task stands

-- the world stands well after each event
pub happens-stands : (world : World) (event : Event) → StandsWell world → StandsWell (happens world event)
happens-stands world event stands = by (refusal world event) refl
  where
    by : (reason : Option Refused) → refusal world event ≡ reason → StandsWell (happens world event)
    by None is = rw is (occurs-stands world event is stands)
    by (Some reason) is = rw is stands

run_from-stands : (world : World) (events : List Event) → StandsWell world → StandsWell (run_from world events)
unfolding run_from
run_from-stands world [] stands = stands
run_from-stands world (event ∷ events) stands = run_from-stands (happens world event) events (happens-stands world event stands)

-- and so after each run
pub run-stands : (sizes : Sizes) (events : List Event) → IsWithinLimits sizes → StandsWell (run sizes events)
unfolding run
run-stands sizes events limits = run_from-stands (first_world sizes) events (first_world-stands sizes limits)

-- Places.

-- each verb of a client, and each of the master, goes to a place of the pool
pub verb_of-inside : (world : World) (client : ℕ) → StandsWell world → 1 ≤ client → client < length world.clients → IsInPool world.shape (place_of (verb_of world client))
verb_of-inside world client stands least within = of_client.next-inside world.shape client (client_at world client) (stands.each client least within)

pub verb_of_task-inside : (world : World) (verb : Verb) → StandsWell world → verb_of_task world.master.task ≡ Some verb → IsInPool world.shape (place_of verb)
verb_of_task-inside world verb stands is = by world.master.task stands.task is
  where
    by : (task : TaskState) → TaskStands world.shape task → verb_of_task task ≡ Some verb → IsInPool world.shape (place_of verb)
    by NoTask has is = absurd cc
    by (Settles settling) has is = subst (λ v. IsInPool world.shape (place_of v)) (some_same is) (of_settling.next-inside world.shape settling has)
    by (Recovers recovery) has is = subst (λ v. IsInPool world.shape (place_of v)) (some_same is) (of_recovery.next-inside world.shape recovery.client recovery has)
    by (Joins joining) has is = subst (λ v. IsInPool world.shape (place_of v)) (some_same is) (of_joining.next-inside world.shape joining has)

-- a place of the pool is one of the nodes
pub HasPlace-inside : (world : World) (place : Place) → StandsWell world → IsInPool world.shape place → HasPlace world.nodes place
HasPlace-inside world place stands inside = elim inside [
  | inl control ↦ record {
    node = omega (arith, nodes, control.0);
    at = let P : ℕ → Type 0 = λ n. place.at < length (words_on world.nodes n) in
        subst P (sym control.0) (omega (arith, at_control, control.1));
  }
  | inr memory ↦ record {
    node = omega (arith, nodes, memory.1);
    at = omega (arith, at place.node memory.0 memory.1, memory.2);
  }
]
  where
    nodes : length world.nodes ≡ 1 + world.shape.nodes
    nodes = sym (length-map world.nodes length) ∙ ap length stands.words ∙ omega (arith, length-replicate {A = ℕ} world.shape.nodes (node_words world.shape))

    at_control : length (words_on world.nodes 0) ≡ 1040
    at_control = sym (get_or-map length world.nodes 0 [] 0 (omega (arith, nodes))) ∙ ap (λ sizes. get_or sizes 0 0) stands.words

    at : (node : ℕ) → 1 ≤ node → node ≤ world.shape.nodes → length (words_on world.nodes node) ≡ node_words world.shape
    at (suc node) least most =
        sym (get_or-map length world.nodes (suc node) [] 0 (omega (arith, nodes)))
        ∙ ap (λ sizes. get_or sizes (suc node) 0) stands.words
        ∙ get_or-replicate world.shape.nodes node (node_words world.shape) 0 (omega arith)
    at zero least most = absurd (omega arith)

pub verb_of-place : (world : World) (client : ℕ) → StandsWell world → 1 ≤ client → client < length world.clients → HasPlace world.nodes (place_of (verb_of world client))
verb_of-place world client stands least within = HasPlace-inside world (place_of (verb_of world client)) stands (verb_of-inside world client stands least within)

pub verb_of_task-place : (world : World) (verb : Verb) → StandsWell world → verb_of_task world.master.task ≡ Some verb → HasPlace world.nodes (place_of verb)
verb_of_task-place world verb stands is = HasPlace-inside world (place_of verb) stands (verb_of_task-inside world verb stands is)
