use Rattle.std.proofs.Common.{◌≡◌, ◌∷◌, ◌+◌, ap, map, subst, sym, ◌∙◌, None}
use Rattle.machine_world.specs.Refusals.{of_seal, refusal}
use Rattle.machine_world.specs.World.{nobody}
use Rattle.machine_world.specs.declared.events.Event.TheVariants as event
use Rattle.verb_history.specs.Moments.{moment_of}
use Rattle.world_core.specs.Fields.{world_of}
use Rattle.world_core.specs.Reached.{IsRun}
use Rattle.world_core.specs.Working.{task_of}
use Rattle.world_core.proofs.EventLemmas.{node-there, outside-node}
use Rattle.world_core.proofs.ReachedLemmas.{occurs-run}
use Rattle.world_core.proofs.worlds.World.fill.Goals as goal

pub fill_words-requires-clause-node : goal.fill_words-requires-clause-node
fill_words-requires-clause-node c =
    let world = world_of c.self.inside in
    let allowed : refusal world (event.Fill c.args.node c.args.word) ≡ None = ap (λ w. refusal w (event.Fill c.args.node c.args.word)) c.self.view_is ∙ c.requires.allowed in
    let known = outside-node world c.args.node (of_seal world) allowed in
    let there = node-there world c.args.node c.self.invariant.stands known.0 known.1 in
    there.0

pub fill_words-requires-clause-count : goal.fill_words-requires-clause-count
fill_words-requires-clause-count c =
    let world = world_of c.self.inside in
    let allowed : refusal world (event.Fill c.args.node c.args.word) ≡ None = ap (λ w. refusal w (event.Fill c.args.node c.args.word)) c.self.view_is ∙ c.requires.allowed in
    let known = outside-node world c.args.node (of_seal world) allowed in
    let there = node-there world c.args.node c.self.invariant.stands known.0 known.1 in
    c.node_words-count.ensures ∙ sym there.1

pub invariant_of-self : goal.invariant_of-self
invariant_of-self c =
    let world = world_of c.self.inside in
    let allowed : refusal world (event.Fill c.args.node c.args.word) ≡ None = ap (λ w. refusal w (event.Fill c.args.node c.args.word)) c.self.view_is ∙ c.requires.allowed in
    let known = outside-node world c.args.node (of_seal world) allowed in
    let there = node-there world c.args.node c.self.invariant.stands known.0 known.1 in
    subst IsRun (sym (λ i. record {
      shape = c.self.inside.shape;
      nodes = c.fill_words.ensures i;
      clients = nobody c.self.inside.shape ∷ c.self.inside.clients.items;
      master = record { task = task_of c.self.inside.task; won = c.self.inside.won; settled = c.self.inside.settled; recovered = c.self.inside.recovered };
      stopped = c.self.inside.stopped;
      trace = map moment_of c.self.inside.trace.items;
      ledger = c.self.inside.ledger.ledger;
      events = c.self.inside.events + 1;
    }))
    (occurs-run world (event.Fill c.args.node c.args.word) allowed c.self.invariant)
