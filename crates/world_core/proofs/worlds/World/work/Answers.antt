use Rattle.std.proofs.Common.{◌≡◌, ◌∷◌, ◌+◌, ◌-◌, ap, arith, map, refl, subst, sym, true, ◌∙◌, None}
use Rattle.std.specs.Prelude.{if◌then◌else◌, not}
use Rattle.machine.specs.Joining as joinings
use Rattle.machine_world.specs.Events.{also_if, opens, works}
use Rattle.machine_world.specs.Ledger.{with_opening}
use Rattle.machine_world.specs.Refusals.{refusal}
use Rattle.machine_world.specs.World.{Joins, NoTask, Recovers, Settles, nobody}
use Rattle.machine_world.specs.declared.events.Event.TheVariants as event
use Rattle.verb_history.specs.Moments.{moment_of}
use Rattle.verb_words.specs.Applied.{answer_to, words_after}
use Rattle.world_core.specs.Fields.{world_of}
use Rattle.world_core.specs.Openings.{CanOpen, opening_world}
use Rattle.world_core.specs.Reached.{IsRun}
use Rattle.world_core.specs.Steps.{client_in}
use Rattle.world_core.specs.Working.{task_of}
use Rattle.world_core.proofs.ActLemmas.{own-client}
use Rattle.world_core.proofs.ReadyLemmas.{run-ready}
use Rattle.world_core.proofs.StepLemmas.{found-client}
use Rattle.world_core.proofs.WorkLemmas.{joined-world, recovered-client, recovered-world, recovery-place, recovery-stands, run-can_open, settled-world, settling-place, works-run}
use Rattle.world_core.proofs.worlds.World.work.Goals as goal

pub settle-requires-clause-before : goal.settle-requires-clause-before
settle-requires-clause-before c =
    let world = world_of c.self.inside in
    subst (λ list. CanOpen c.self.inside.shape c.self.inside.nodes list c.self.inside.ledger.ledger) (sym c.as_slice.ensures.value) (run-can_open world c.self.inside.clients.items c.self.invariant refl)

pub settle-requires-clause-place : goal.settle-requires-clause-place
settle-requires-clause-place c =
    let world = world_of c.self.inside in
    settling-place world c.in-Settle.settling c.self.invariant (ap task_of c.in-Settle.is)

pub index-requires : goal.index-requires
index-requires c =
    let world = world_of c.self.inside in
    let task = ap task_of c.in-Recover.is in
    let known = recovered-client world c.in-Recover.recovery c.self.invariant task in
    omega (arith, known.0, known.1, c.client-client.ensures)

pub recover-requires-clause-ready : goal.recover-requires-clause-ready
recover-requires-clause-ready c =
    let world = world_of c.self.inside in
    run-ready world c.self.invariant

pub recover-requires-clause-shape : goal.recover-requires-clause-shape
recover-requires-clause-shape c =
    let world = world_of c.self.inside in
    (recovery-stands world c.in-Recover.recovery c.self.invariant (ap task_of c.in-Recover.is)).same_shape

pub recover-requires-clause-place : goal.recover-requires-clause-place
recover-requires-clause-place c =
    let world = world_of c.self.inside in
    recovery-place world c.in-Recover.recovery c.self.invariant (ap task_of c.in-Recover.is)

pub invariant_of-self-in-Settle : goal.invariant_of-self-in-Settle
invariant_of-self-in-Settle c =
    let world = world_of c.self.inside in
    let allowed : refusal world event.Work ≡ None = ap (λ w. refusal w event.Work) c.self.view_is ∙ c.requires.allowed in
    let told = c.in_ok-taken-in-Settle.ensures in
    let same = settled-world world c.self.inside.clients.items c.in-Settle.settling c.settle.new.settling c.in_ok-taken-in-Settle.taken.told c.settle.new.nodes (task_of c.end_task.new.task) c.settle.new.ledger.ledger
    refl (ap task_of c.in-Settle.is) told.settling told.told told.nodes
    (c.end_task.ensures ∙ ap (λ t. if t then NoTask else Settles c.settle.new.settling) c.opens.ensures)
    (told.ledger ∙ ap (λ list. if opens c.in_ok-taken-in-Settle.taken.told
    then with_opening (opening_world c.self.inside.shape c.self.inside.nodes list c.self.inside.settled c.self.inside.events) c.settle.new.nodes c.self.inside.ledger.ledger
    else c.self.inside.ledger.ledger) c.as_slice.ensures.value) in
    subst IsRun (sym same) (works-run world allowed c.self.invariant)

pub invariant_of-self-in-Recover : goal.invariant_of-self-in-Recover
invariant_of-self-in-Recover c =
    let world = world_of c.self.inside in
    let allowed : refusal world event.Work ≡ None = ap (λ w. refusal w event.Work) c.self.view_is ∙ c.requires.allowed in
    let task = ap task_of c.in-Recover.is in
    let known = recovered-client world c.in-Recover.recovery c.self.invariant task in
    let told = c.in_ok-taken-in-Recover.ensures in
    let found = found-client c.self.inside.shape c.self.inside.clients.items (c.client-client.result - 1) c.index.result.now (omega (arith, known.0, known.1, c.client-client.ensures)) c.index.ensures in
    let actor = found ∙ ap (λ n. client_in c.self.inside.shape c.self.inside.clients.items (n - 1)) c.client-client.ensures ∙ own-client world c.self.inside.clients.items c.in-Recover.recovery.client refl known.0 in
    let same = recovered-world world c.self.inside.clients.items c.index.result.now c.in-Recover.recovery c.recover.new.recovery c.in_ok-taken-in-Recover.taken.told c.in_ok-taken-in-Recover.taken.settles
    c.recover.new.nodes (task_of c.end_task-in-Recover.new.task) c.add_if.new.clients c.add_if-in-Recover.new.clients c.add_if-in-Recover-2.new.clients c.recover.new.ledger.ledger
    refl task actor told.recovery told.told told.settles told.nodes
    (c.end_task-in-Recover.ensures ∙ ap (λ t. if not t then NoTask else Recovers c.recover.new.recovery) c.recovers_on.ensures)
    (c.add_if.ensures ∙ (λ i. also_if (c.won.ensures i) (c.client-client.ensures i) c.self.inside.won))
    (c.add_if-in-Recover.ensures ∙ ap (λ n. also_if c.in_ok-taken-in-Recover.taken.settles n c.self.inside.settled) c.client-client.ensures)
    (c.add_if-in-Recover-2.ensures ∙ (λ i. also_if (c.is_recovered.ensures i) (c.client-client.ensures i) c.self.inside.recovered))
    told.ledger in
    let whole = ap (λ trace. record {
      shape = c.self.inside.shape;
      nodes = c.recover.new.nodes;
      clients = nobody c.self.inside.shape ∷ c.self.inside.clients.items;
      master = record { task = task_of c.end_task-in-Recover.new.task; won = c.add_if.new.clients; settled = c.add_if-in-Recover.new.clients; recovered = c.add_if-in-Recover-2.new.clients };
      stopped = c.self.inside.stopped;
      trace = map moment_of trace;
      ledger = c.recover.new.ledger.ledger;
      events = c.self.inside.events + 1;
    }) told.trace ∙ same in
    subst IsRun (sym whole) (works-run world allowed c.self.invariant)

pub invariant_of-self-in-Join : goal.invariant_of-self-in-Join
invariant_of-self-in-Join c =
    let world = world_of c.self.inside in
    let allowed : refusal world event.Work ≡ None = ap (λ w. refusal w event.Work) c.self.view_is ∙ c.requires.allowed in
    let answers = c.apply-answer.ensures.answer ∙ ap (λ verb. answer_to c.self.inside.nodes verb true) c.next-verb.ensures.verb in
    let same = joined-world world c.in-Join.join c.after-told.new.self c.after-told.result c.apply-answer.new.self (task_of c.end_task-in-Join.new.task) (ap task_of c.in-Join.is)
    (c.after-told.ensures.state ∙ ap (λ a. (joinings.turn c.in-Join.join a).state) answers) (c.after-told.ensures.told ∙ ap (λ a. (joinings.turn c.in-Join.join a).told) answers)
    (c.apply-answer.ensures.words ∙ ap (λ verb. words_after c.self.inside.nodes verb true) c.next-verb.ensures.verb)
    (c.end_task-in-Join.ensures ∙ ap (λ t. if not t then NoTask else Joins c.after-told.new.self) c.joins_on.ensures) in
    subst IsRun (sym same) (works-run world allowed c.self.invariant)

pub returns-in_ok-taken-in-Settle-clause-world : goal.returns-in_ok-taken-in-Settle-clause-world
returns-in_ok-taken-in-Settle-clause-world c =
    let world = world_of c.self.inside in
    let told = c.in_ok-taken-in-Settle.ensures in
    let same = settled-world world c.self.inside.clients.items c.in-Settle.settling c.settle.new.settling c.in_ok-taken-in-Settle.taken.told c.settle.new.nodes (task_of c.end_task.new.task) c.settle.new.ledger.ledger
    refl (ap task_of c.in-Settle.is) told.settling told.told told.nodes
    (c.end_task.ensures ∙ ap (λ t. if t then NoTask else Settles c.settle.new.settling) c.opens.ensures)
    (told.ledger ∙ ap (λ list. if opens c.in_ok-taken-in-Settle.taken.told
    then with_opening (opening_world c.self.inside.shape c.self.inside.nodes list c.self.inside.settled c.self.inside.events) c.settle.new.nodes c.self.inside.ledger.ledger
    else c.self.inside.ledger.ledger) c.as_slice.ensures.value) in
    same ∙ ap works c.self.view_is

pub returns-in_ok-taken-in-Recover-clause-world : goal.returns-in_ok-taken-in-Recover-clause-world
returns-in_ok-taken-in-Recover-clause-world c =
    let world = world_of c.self.inside in
    let task = ap task_of c.in-Recover.is in
    let known = recovered-client world c.in-Recover.recovery c.self.invariant task in
    let told = c.in_ok-taken-in-Recover.ensures in
    let found = found-client c.self.inside.shape c.self.inside.clients.items (c.client-client.result - 1) c.index.result.now (omega (arith, known.0, known.1, c.client-client.ensures)) c.index.ensures in
    let actor = found ∙ ap (λ n. client_in c.self.inside.shape c.self.inside.clients.items (n - 1)) c.client-client.ensures ∙ own-client world c.self.inside.clients.items c.in-Recover.recovery.client refl known.0 in
    let same = recovered-world world c.self.inside.clients.items c.index.result.now c.in-Recover.recovery c.recover.new.recovery c.in_ok-taken-in-Recover.taken.told c.in_ok-taken-in-Recover.taken.settles
    c.recover.new.nodes (task_of c.end_task-in-Recover.new.task) c.add_if.new.clients c.add_if-in-Recover.new.clients c.add_if-in-Recover-2.new.clients c.recover.new.ledger.ledger
    refl task actor told.recovery told.told told.settles told.nodes
    (c.end_task-in-Recover.ensures ∙ ap (λ t. if not t then NoTask else Recovers c.recover.new.recovery) c.recovers_on.ensures)
    (c.add_if.ensures ∙ (λ i. also_if (c.won.ensures i) (c.client-client.ensures i) c.self.inside.won))
    (c.add_if-in-Recover.ensures ∙ ap (λ n. also_if c.in_ok-taken-in-Recover.taken.settles n c.self.inside.settled) c.client-client.ensures)
    (c.add_if-in-Recover-2.ensures ∙ (λ i. also_if (c.is_recovered.ensures i) (c.client-client.ensures i) c.self.inside.recovered))
    told.ledger in
    let whole = ap (λ trace. record {
      shape = c.self.inside.shape;
      nodes = c.recover.new.nodes;
      clients = nobody c.self.inside.shape ∷ c.self.inside.clients.items;
      master = record { task = task_of c.end_task-in-Recover.new.task; won = c.add_if.new.clients; settled = c.add_if-in-Recover.new.clients; recovered = c.add_if-in-Recover-2.new.clients };
      stopped = c.self.inside.stopped;
      trace = map moment_of trace;
      ledger = c.recover.new.ledger.ledger;
      events = c.self.inside.events + 1;
    }) told.trace ∙ same in
    whole ∙ ap works c.self.view_is
