-- What an event changes of what is counted beside a world.
use Rattle.std.proofs.Common.{◌≡◌, ◌≢◌, ℕ, zero, suc, ◌+◌, ◌<◌, ◌≤◌, ◌==◌, Bool, true, false, not, ◌&&◌, ◌||◌, List, [], ◌∷◌, ◌++◌, length, map, get_or, Option, Some, None, if◌then◌else◌, refl, sym, ap, subst, ◌∙◌, add-zero, arith, length-append, length-set}
use Rattle.std.specs.Prelude.{count_by, is_some, nat_lt, slice_set}
use Rattle.std.proofs.Math.ListN.{get_or-map}
use Rattle.std.proofs.Math.Seq.{map-set_same}
use Rattle.std.proofs.lemmas.Bool.Decides.{nat_tests}
use Rattle.std.proofs.lemmas.List.{get_or-set_other, get_or-set_same}
use Rattle.std.proofs.lemmas.List.Sums.{sum_by-append}
use Rattle.kv_ops.proofs.KeptLemmas.{turn-kept}
use Rattle.kv_ops.specs.Stepping.{is_ended}
use Rattle.machine.specs.Client.{after as turned, invoked, told}
use Rattle.machine.specs.Stage.{Client, first_client}
use Rattle.machine.specs.declared.client_call.Step.{Step}
use Rattle.machine.specs.declared.client_call.Step.TheVariants as step
use Rattle.machine_world.proofs.EventLemmas.{occurred}
use Rattle.machine_world.specs.Calls.{key_of, operation_of, value_of}
use Rattle.machine_world.specs.Events.{acts, also, also_if, answer_of, comes_to, happens, invokes, moments_of, occurs, registers, stops, work_of, works, works_on}
use Rattle.machine_world.specs.Refusals.{of_work, refusal}
use Rattle.machine_world.specs.World.{Joins, NoTask, Recovers, Settles, TaskState, World, client_at, first_world, is_among, is_registered, is_stopped, nobody}
use Rattle.machine_world.specs.declared.events.Event.{Event}
use Rattle.machine_world.specs.declared.events.Event.TheVariants as event
use Rattle.machine_world.specs.declared.outcomes.Refused.{Refused}
use Rattle.machine_world.specs.declared.outcomes.Refused.TheVariants as refused
use Rattle.map_model.specs.Trace.{Moment}
use Rattle.map_model.specs.declared.calls.Call.{Call}
use Rattle.region_view.specs.Sizes.{Sizes}
use Rattle.sim_meaning.specs.Driver.{awaits_recovery, is_return, returned_in}
use Rattle.machine_world.specs.declared.outcomes.Happened.{Happened}
use Rattle.sim_run.specs.Counted.{IsCounted, NoneAwaits, event_of, leaves_counts}
use Rattle.sim_run.specs.Told.{is_return_of}
use Rattle.sim_run.specs.declared.takers.Taker.{Taker}
use Rattle.sim_run.specs.declared.takers.Taker.TheVariants as taker

number_of : Client → ℕ
number_of client = client.number

-- The calls that a client has made.

number-at : (clients : List Client) (client : ℕ) (nobody : Client) → (get_or clients client nobody).number ≡ get_or (map (λ (c : Client). c.number) clients) client nobody.number
number-at clients client nobody = sym (get_or-map (λ (c : Client). c.number) clients client nobody)

number-set : (clients : List Client) (at client : ℕ) (changed nobody : Client) → changed.number ≡ (get_or clients at nobody).number
    → (get_or (slice_set clients at changed) client nobody).number ≡ (get_or clients client nobody).number
number-set clients at client changed nobody same =
    number-at (slice_set clients at changed) client nobody
    ∙ ap (λ numbers. get_or numbers client nobody.number) (map-set_same (λ (c : Client). c.number) clients at changed nobody same)
    ∙ sym (number-at clients client nobody)

number-push : (clients : List Client) (new nobody : Client) (client : ℕ) → new.number ≡ nobody.number → (get_or (clients ++ new ∷ []) client nobody).number ≡ (get_or clients client nobody).number
number-push [] new nobody zero same = same
number-push [] new nobody (suc client) same = refl
number-push (first ∷ clients) new nobody zero same = refl
number-push (first ∷ clients) new nobody (suc client) same = number-push clients new nobody client same

acts-number : (world : World) (client other : ℕ) → (client_at (acts false world client) other).number ≡ (client_at world other).number
unfolding client_at
acts-number world client other =
    number-set world.clients client other (turned (client_at world client) (answer_of false world client)) (nobody world.shape)
    (turn-kept (client_at world client) (answer_of false world client)).number

works-number : (world : World) (task : TaskState) (other : ℕ) → (client_at (works_on world task) other).number ≡ (client_at world other).number
unfolding client_at
works-number world NoTask other = refl
works-number world (Settles settling) other = refl
works-number world (Recovers recovery) other = refl
works-number world (Joins joining) other = refl

leaves-number : (world : World) (event : Event) → leaves_counts event ≡ true → (other : ℕ) → (client_at (occurs world event) other).number ≡ (client_at world other).number
unfolding client_at
leaves-number world (event.Lose node) leaves other = refl
leaves-number world (event.Choose task) leaves other = refl
leaves-number world (event.Step client) leaves other = absurd cc
leaves-number world (event.Late client) leaves other = absurd cc
leaves-number world event.Work leaves other = absurd cc
leaves-number world event.Register leaves other = absurd cc
leaves-number world (event.Invoke client call) leaves other = absurd cc
leaves-number world (event.Stop client) leaves other = absurd cc
leaves-number world (event.Fill node word) leaves other = absurd cc

stops-number : (world : World) (client other : ℕ) → (client_at (stops world client) other).number ≡ (client_at world other).number
unfolding client_at
stops-number world client other = refl

registers-number : (world : World) (other : ℕ) → (client_at (registers world) other).number ≡ (client_at world other).number
unfolding client_at
registers-number world other = number-push world.clients _ (nobody world.shape) other refl

invokes-own : (world : World) (client : ℕ) (call : Call) → client < length world.clients → (client_at (invokes world client call) client).number ≡ (client_at world client).number + 1
unfolding client_at
invokes-own world client call within =
    ap (λ (c : Client). c.number) (get_or-set_same world.clients client (invoked (client_at world client) (operation_of call) (key_of call) (value_of call)) (nobody world.shape) within)

invokes-other : (world : World) (client other : ℕ) (call : Call) → other ≢ client → (client_at (invokes world client call) other).number ≡ (client_at world other).number
unfolding client_at
invokes-other world client other call differ =
    ap (λ (c : Client). c.number) (get_or-set_other world.clients client other (invoked (client_at world client) (operation_of call) (key_of call) (value_of call)) (nobody world.shape) differ)

-- Returns.

count-append : {X : Type 0} (test : X → Bool) (xs ys : List X) → count_by test (xs ++ ys) ≡ count_by test xs + count_by test ys
count-append test xs ys = sum_by-append (λ x. if test x then 1 else 0) xs ys

returned-by : (client : Client) (tells : Step) → count_by is_return (moments_of client tells) ≡ (if is_ended tells then 1 else 0)
returned-by client step.Going = refl
returned-by client (step.Ended result) = refl
returned-by client (step.NotYet why) = refl

acts-returned : (world : World) (client : ℕ) → returned_in (acts false world client) ≡ returned_in world + (if is_ended (told (client_at world client) (answer_of false world client)) then 1 else 0)
acts-returned world client =
    let tells = told (client_at world client) (answer_of false world client) in
    count-append is_return world.trace (moments_of (client_at world client) tells) ∙ ap (λ n. returned_in world + n) (returned-by (client_at world client) tells)

works-returned : (world : World) (task : TaskState) → returned_in (works_on world task) ≡ returned_in world
works-returned world NoTask = refl
works-returned world (Settles settling) = refl
works-returned world (Recovers recovery) = refl
works-returned world (Joins joining) = refl

pushed-none : (world : World) (moment : Moment) → is_return moment ≡ false → count_by is_return (world.trace ++ moment ∷ []) ≡ returned_in world
pushed-none world moment none =
    let one : count_by is_return (moment ∷ []) ≡ 0 = rw none refl in
    omega (arith, count-append is_return world.trace (moment ∷ []), one)

-- The clients that are stopped and recovered.

registered-more : (client few many : ℕ) → few ≤ many → (nat_lt 0 client && nat_lt client few) ≡ true → (nat_lt 0 client && nat_lt client many) ≡ true
registered-more client few many more known = grind (arith, nat_tests)

works-clients : (world : World) (task : TaskState) → (works_on world task).clients ≡ world.clients
works-clients world NoTask = refl
works-clients world (Settles settling) = refl
works-clients world (Recovers recovery) = refl
works-clients world (Joins joining) = refl

works-stopped : (world : World) (task : TaskState) → (works_on world task).stopped ≡ world.stopped
works-stopped world NoTask = refl
works-stopped world (Settles settling) = refl
works-stopped world (Recovers recovery) = refl
works-stopped world (Joins joining) = refl

also-keeps : (client other : ℕ) (numbers : List ℕ) → is_among client numbers ≡ true → is_among client (also other numbers) ≡ true
also-keeps client other numbers there = by (is_among other numbers) refl
  where
    or_there : (same : Bool) → (same || is_among client numbers) ≡ true
    or_there true = refl
    or_there false = there

    by : (t : Bool) → is_among other numbers ≡ t → is_among client (also other numbers) ≡ true
    by true is = rw is there
    by false is = rw is (or_there (other == client))

also_if-keeps : (test : Bool) (client other : ℕ) (numbers : List ℕ) → is_among client numbers ≡ true → is_among client (also_if test other numbers) ≡ true
also_if-keeps true client other numbers there = also-keeps client other numbers there
also_if-keeps false client other numbers there = there

works-recovered : (world : World) (task : TaskState) (client : ℕ) → is_among client world.master.recovered ≡ true → is_among client (works_on world task).master.recovered ≡ true
works-recovered world NoTask client there = there
works-recovered world (Settles settling) client there = there
works-recovered world (Recovers recovery) client there = also_if-keeps _ client recovery.client world.master.recovered there
works-recovered world (Joins joining) client there = there

still-none : (stopped stopped' recovered recovered' : Bool) → stopped' ≡ stopped → (recovered ≡ true → recovered' ≡ true) → (stopped && not recovered) ≡ false → (stopped' && not recovered') ≡ false
still-none false stopped' recovered recovered' same keeps none = rw same refl
still-none true stopped' true recovered' same keeps none = rw (same, keeps refl) refl
still-none true stopped' false recovered' same keeps none = absurd cc

works-awaits : (world : World) (task : TaskState) → NoneAwaits world → NoneAwaits (works_on world task)
works-awaits world task none client =
    still-none (is_stopped world client) (is_stopped (works_on world task) client) (is_among client world.master.recovered) (is_among client (works_on world task).master.recovered)
    (ap (is_among client) (works-stopped world task)) (works-recovered world task client) (none client)

-- Events.

works-events : (world : World) (task : TaskState) → of_work task ≡ None → (works_on world task).events ≡ world.events + 1
works-events world NoTask none = let bad : Some refused.NoTask ≡ None = none in absurd cc
works-events world (Settles settling) none = refl
works-events world (Recovers recovery) none = refl
works-events world (Joins joining) none = refl

-- What is kept stays right.

pub steps-counted : (world : World) (client verbs returned : ℕ) (made : List ℕ) (awaits : Bool) → IsCounted world verbs returned made awaits
    → IsCounted (acts false world client) (verbs + 1) (returned + (if is_ended (told (client_at world client) (answer_of false world client)) then 1 else 0)) made awaits
steps-counted world client verbs returned made awaits is = record {
  few = omega (arith, is.few);
  ended = ap (λ n. n + (if ended then 1 else 0)) is.ended ∙ sym (acts-returned world client);
  returns = by ended;
  numbers = λ other. is.numbers other ∙ sym (acts-number world client other);
  enough = subst (λ n. n ≤ length made) (sym (length-set world.clients client _)) is.enough;
  stopped = λ other there. ap (λ n. nat_lt 0 other && nat_lt other n) (length-set world.clients client _) ∙ is.stopped other there;
  recovered = is.recovered;
}
  where
    ended : Bool
    ended = is_ended (told (client_at world client) (answer_of false world client))

    by : (test : Bool) → returned + (if test then 1 else 0) ≤ world.events + 1
    by true = omega (arith, is.returns)
    by false = omega (arith, is.returns)

pub works-counted : (world : World) (verbs returned : ℕ) (made : List ℕ) (awaits : Bool) → refusal world event.Work ≡ None → IsCounted world verbs returned made awaits
    → IsCounted (works world) (verbs + 1) returned made awaits
works-counted world verbs returned made awaits lawful is =
    let events : (works world).events ≡ world.events + 1 = works-events world world.master.task lawful in
    let clients : (works world).clients ≡ world.clients = works-clients world world.master.task in
    let halted : (works world).stopped ≡ world.stopped = works-stopped world world.master.task in
    record {
      few = omega (arith, is.few, events);
      ended = is.ended ∙ sym (works-returned world world.master.task);
      returns = omega (arith, is.returns, events);
      numbers = λ other. is.numbers other ∙ sym (works-number world world.master.task other);
      enough = subst (λ cs. length cs ≤ length made) (sym clients) is.enough;
      stopped = λ other there. ap (λ cs. nat_lt 0 other && nat_lt other (length cs)) clients ∙ is.stopped other (ap (is_among other) (sym halted) ∙ there);
      recovered = λ none. works-awaits world world.master.task (is.recovered none);
    }

pub leaves-counted : (world : World) (event : Event) (verbs returned : ℕ) (made : List ℕ) (awaits : Bool) → leaves_counts event ≡ true → IsCounted world verbs returned made awaits
    → IsCounted (occurs world event) verbs returned made awaits
leaves-counted world (event.Lose node) verbs returned made awaits leaves is = record {
  few = omega (arith, is.few);
  ended = is.ended;
  returns = omega (arith, is.returns);
  numbers = λ other. is.numbers other ∙ sym (leaves-number world (event.Lose node) refl other);
  enough = is.enough;
  stopped = is.stopped;
  recovered = is.recovered;
}
leaves-counted world (event.Choose task) verbs returned made awaits leaves is = record {
  few = omega (arith, is.few);
  ended = is.ended;
  returns = omega (arith, is.returns);
  numbers = λ other. is.numbers other ∙ sym (leaves-number world (event.Choose task) refl other);
  enough = is.enough;
  stopped = is.stopped;
  recovered = is.recovered;
}
leaves-counted world (event.Step client) verbs returned made awaits leaves is = absurd cc
leaves-counted world (event.Late client) verbs returned made awaits leaves is = absurd cc
leaves-counted world event.Work verbs returned made awaits leaves is = absurd cc
leaves-counted world event.Register verbs returned made awaits leaves is = absurd cc
leaves-counted world (event.Invoke client call) verbs returned made awaits leaves is = absurd cc
leaves-counted world (event.Stop client) verbs returned made awaits leaves is = absurd cc
leaves-counted world (event.Fill node word) verbs returned made awaits leaves is = absurd cc

-- a client that may act is registered
known : (world : World) (client : ℕ) (rest : Option Refused) → (if is_registered world client then (if is_stopped world client then Some (refused.Stopped client) else rest) else Some (refused.Unknown client)) ≡ None
    → is_registered world client ≡ true
known world client rest none = by (is_registered world client) refl
  where
    by : (t : Bool) → is_registered world client ≡ t → is_registered world client ≡ true
    by true is = is
    by false is = let bad : Some (refused.Unknown client) ≡ None = sym (rw is refl) ∙ none in absurd cc

below : (client count : ℕ) → (nat_lt 0 client && nat_lt client count) ≡ true → client < count
below client count is = grind (arith, nat_tests)

pub stops-counted : (world : World) (client verbs returned : ℕ) (made : List ℕ) (awaits : Bool) → refusal world (event.Stop client) ≡ None → IsCounted world verbs returned made awaits
    → IsCounted (stops world client) verbs returned made true
stops-counted world client verbs returned made awaits lawful is = record {
  few = omega (arith, is.few);
  ended = is.ended ∙ sym (pushed-none world _ refl);
  returns = omega (arith, is.returns);
  numbers = λ other. is.numbers other ∙ sym (stops-number world client other);
  enough = is.enough;
  stopped = λ other there. by other (client == other) refl there;
  recovered = λ none. absurd cc;
}
  where
    by : (other : ℕ) (t : Bool) → (client == other) ≡ t → (t || is_stopped world other) ≡ true → is_registered world other ≡ true
    by other true same there =
        let equal : client ≡ other = grind (arith, nat_tests) in
        subst (λ n. is_registered world n ≡ true) equal (known world client None lawful)
    by other false differ there = is.stopped other there

pub registers-pushed : (world : World) (verbs returned : ℕ) (made : List ℕ) (awaits : Bool) → IsCounted world verbs returned made awaits
    → IsCounted world verbs returned (made ++ 0 ∷ []) awaits
registers-pushed world verbs returned made awaits is = record {
  few = is.few;
  ended = is.ended;
  returns = is.returns;
  numbers = λ other. pushed made other ∙ is.numbers other;
  enough = omega (arith, is.enough, length-append made (0 ∷ []));
  stopped = is.stopped;
  recovered = is.recovered;
}
  where
    pushed : (numbers : List ℕ) (other : ℕ) → get_or (numbers ++ 0 ∷ []) other 0 ≡ get_or numbers other 0
    pushed [] zero = refl
    pushed [] (suc other) = refl
    pushed (number ∷ numbers) zero = refl
    pushed (number ∷ numbers) (suc other) = pushed numbers other

pub registers-counted : (world : World) (verbs returned : ℕ) (made : List ℕ) (awaits : Bool) → IsCounted world verbs returned made awaits
    → IsCounted (registers world) verbs returned (made ++ 0 ∷ []) awaits
registers-counted world verbs returned made awaits is =
    let pushed = registers-pushed world verbs returned made awaits is in
    let more = length-append world.clients (first_client (length world.clients) world.shape ∷ []) in
    record {
      few = omega (arith, is.few);
      ended = is.ended;
      returns = omega (arith, is.returns);
      numbers = λ other. pushed.numbers other ∙ sym (registers-number world other);
      enough = omega (arith, is.enough, length-append made (0 ∷ []), more);
      stopped = λ other there. registered-more other (length world.clients) (length (registers world).clients) (omega (arith, more)) (is.stopped other there);
      recovered = is.recovered;
    }

pub invokes-counted : (world : World) (client number verbs returned : ℕ) (call : Call) (made : List ℕ) (awaits : Bool) → refusal world (event.Invoke client call) ≡ None → number ≡ (client_at world client).number + 1
    → IsCounted world verbs returned made awaits → IsCounted (invokes world client call) verbs returned (slice_set made client number) awaits
invokes-counted world client number verbs returned call made awaits lawful one_more is =
    let there = below client (length world.clients) (known world client _ lawful) in
    record {
      few = omega (arith, is.few);
      ended = is.ended ∙ sym (pushed-none world _ refl);
      returns = omega (arith, is.returns);
      numbers = λ other. by other (other == client) refl there;
      enough = subst (λ n. n ≤ length (slice_set made client number)) (sym (length-set world.clients client _)) (subst (λ n. length world.clients ≤ n) (sym (length-set made client number)) is.enough);
      stopped = λ other halted. ap (λ n. nat_lt 0 other && nat_lt other n) (length-set world.clients client _) ∙ is.stopped other halted;
      recovered = is.recovered;
    }
  where
    by : (other : ℕ) (t : Bool) → (other == client) ≡ t → client < length world.clients → get_or (slice_set made client number) other 0 ≡ (client_at (invokes world client call) other).number
    by other true same there =
        let equal : client ≡ other = grind (arith, nat_tests) in
        subst (λ n. get_or (slice_set made client number) n 0 ≡ (client_at (invokes world client call) n).number) equal
        (get_or-set_same made client number 0 (omega (arith, there, is.enough)) ∙ one_more ∙ sym (invokes-own world client call there))
    by other false differ there =
        let apart : other ≢ client = λ same. (let bad : (other == client) ≡ true = grind (arith, nat_tests) in absurd cc) in
        get_or-set_other made client other number 0 apart ∙ is.numbers other ∙ sym (invokes-other world client other call apart)

-- After an event that is not refused.

pub lawful : (world : World) (event : Event) (reason : Option Refused) (test : Bool) → reason ≡ refusal world event → test ≡ is_some reason → test ≡ false → refusal world event ≡ None
lawful world event None test is some none = sym is
lawful world event (Some reason) test is some none = let bad : true ≡ false = sym some ∙ none in absurd cc

after : (P : World → Type 0) (world now : World) (event : Event) → refusal world event ≡ None → now ≡ happens world event → P (occurs world event) → P now
after P world now event none is p = subst P (sym (is ∙ occurred world event none)) p

pub leaves-after : (world now : World) (event : Event) (verbs returned : ℕ) (made : List ℕ) (awaits : Bool) → leaves_counts event ≡ true → refusal world event ≡ None → now ≡ happens world event
    → IsCounted world verbs returned made awaits → IsCounted now verbs returned made awaits
leaves-after world now event verbs returned made awaits leaves none is counted =
    after (λ w. IsCounted w verbs returned made awaits) world now event none is (leaves-counted world event verbs returned made awaits leaves counted)

pub stops-after : (world now : World) (client verbs returned : ℕ) (made : List ℕ) (awaits : Bool) → refusal world (event.Stop client) ≡ None → now ≡ happens world (event.Stop client)
    → IsCounted world verbs returned made awaits → IsCounted now verbs returned made true
stops-after world now client verbs returned made awaits none is counted =
    after (λ w. IsCounted w verbs returned made true) world now (event.Stop client) none is (stops-counted world client verbs returned made awaits none counted)

pub registers-after : (world now : World) (verbs returned : ℕ) (made : List ℕ) (awaits : Bool) → refusal world event.Register ≡ None → now ≡ happens world event.Register
    → IsCounted world verbs returned made awaits → IsCounted now verbs returned (made ++ 0 ∷ []) awaits
registers-after world now verbs returned made awaits none is counted =
    after (λ w. IsCounted w verbs returned (made ++ 0 ∷ []) awaits) world now event.Register none is (registers-counted world verbs returned made awaits counted)

pub invokes-after : (world now : World) (client number verbs returned : ℕ) (call : Call) (made : List ℕ) (awaits : Bool) → refusal world (event.Invoke client call) ≡ None → now ≡ happens world (event.Invoke client call)
    → number ≡ (client_at world client).number + 1 → IsCounted world verbs returned made awaits → IsCounted now verbs returned (slice_set made client number) awaits
invokes-after world now client number verbs returned call made awaits none is one_more counted =
    after (λ w. IsCounted w verbs returned (slice_set made client number) awaits) world now (event.Invoke client call) none is (invokes-counted world client number verbs returned call made awaits none one_more counted)

-- a verb, with what its answer says
pub verb-after : (by : Taker) (world now : World) (came : Happened) (verbs returned count : ℕ) (made : List ℕ) (awaits : Bool) → refusal world (event_of by) ≡ None → now ≡ happens world (event_of by)
    → came ≡ comes_to world (event_of by) → count ≡ returned + (if is_return_of came then 1 else 0) → IsCounted world verbs returned made awaits → IsCounted now (verbs + 1) count made awaits
verb-after (taker.Client client) world now came verbs returned count made awaits none is is_came is_count counted =
    let counts : count ≡ returned + (if is_ended (told (client_at world client) (answer_of false world client)) then 1 else 0) = is_count ∙ ap (λ h. returned + (if is_return_of h then 1 else 0)) is_came in
    subst (λ n. IsCounted now (verbs + 1) n made awaits) (sym counts)
    (after (λ w. IsCounted w (verbs + 1) (returned + (if is_ended (told (client_at world client) (answer_of false world client)) then 1 else 0)) made awaits) world now (event.Step client) none is
    (steps-counted world client verbs returned made awaits counted))
verb-after taker.Master world now came verbs returned count made awaits none is is_came is_count counted =
    let counts : count ≡ returned = is_count ∙ ap (λ h. returned + (if is_return_of h then 1 else 0)) is_came ∙ quiet world.master.task in
    subst (λ n. IsCounted now (verbs + 1) n made awaits) (sym counts)
    (after (λ w. IsCounted w (verbs + 1) returned made awaits) world now event.Work none is (works-counted world verbs returned made awaits none counted))
  where
    quiet : (task : TaskState) → returned + (if is_return_of (work_of world task) then 1 else 0) ≡ returned
    quiet NoTask = add-zero returned
    quiet (Settles settling) = add-zero returned
    quiet (Recovers recovery) = add-zero returned
    quiet (Joins joining) = add-zero returned

-- Who awaits a recovery.

-- nobody does where none of those does of whom it is known how many calls they have made
pub none-left : (world : World) (verbs returned : ℕ) (made : List ℕ) (awaits : Bool) → IsCounted world verbs returned made awaits → ((other : ℕ) → other < length made → awaits_recovery world other ≡ false) → NoneAwaits world
none-left world verbs returned made awaits is none client = by (is_stopped world client) refl
  where
    by : (t : Bool) → is_stopped world client ≡ t → awaits_recovery world client ≡ false
    by true halted = none client (let there = below client (length world.clients) (is.stopped client halted) in omega (arith, there, is.enough))
    by false running = rw running refl

pub awaits-next : (world : World) (count client : ℕ) → client ≡ count → awaits_recovery world client ≡ false → ((other : ℕ) → other < count → awaits_recovery world other ≡ false)
    → (other : ℕ) → other < count + 1 → awaits_recovery world other ≡ false
awaits-next world count client is none before other less = by (other == count) refl
  where
    by : (t : Bool) → (other == count) ≡ t → awaits_recovery world other ≡ false
    by true same =
        let equal : client ≡ other = grind (arith, nat_tests) in
        subst (λ n. awaits_recovery world n ≡ false) equal none
    by false differ = before other (grind (arith, nat_tests))

-- The opening.

pub first-kept : (sizes : Sizes) → IsCounted (first_world sizes) 0 0 (0 ∷ []) false
unfolding client_at
first-kept sizes = record {
  few = omega arith;
  ended = refl;
  returns = omega arith;
  numbers = none_made;
  enough = omega arith;
  stopped = λ client halted. absurd cc;
  recovered = λ none client. refl;
}
  where
    none_made : (client : ℕ) → get_or (0 ∷ []) client 0 ≡ (client_at (first_world sizes) client).number
    none_made zero = refl
    none_made (suc client) = refl
