use Rattle.std.proofs.Common.{◌≡◌, ◌∷◌, ◌+◌, ap, map, subst, sym, ◌∙◌, None}
use Rattle.machine_world.specs.Refusals.{refusal}
use Rattle.machine_world.specs.World.{nobody}
use Rattle.machine_world.specs.declared.events.Event.TheVariants as event
use Rattle.verb_history.specs.Moments.{moment_of}
use Rattle.world_core.specs.Fields.{world_of}
use Rattle.world_core.specs.Reached.{IsRun}
use Rattle.world_core.specs.Working.{task_of}
use Rattle.world_core.proofs.ReachedLemmas.{occurs-run}
use Rattle.world_core.proofs.worlds.World.lose.Goals as goal

pub invariant_of-self : goal.invariant_of-self
invariant_of-self c =
    let world = world_of c.self.inside in
    let allowed : refusal world (event.Lose c.args.node) ≡ None = ap (λ w. refusal w (event.Lose c.args.node)) c.self.view_is ∙ c.requires.allowed in
    subst IsRun (sym (λ i. record {
      shape = c.self.inside.shape;
      nodes = c.apply.ensures.words i;
      clients = nobody c.self.inside.shape ∷ c.self.inside.clients.items;
      master = record { task = task_of c.self.inside.task; won = c.self.inside.won; settled = c.self.inside.settled; recovered = c.self.inside.recovered };
      stopped = c.self.inside.stopped;
      trace = map moment_of c.self.inside.trace.items;
      ledger = c.self.inside.ledger.ledger;
      events = c.self.inside.events + 1;
    }))
    (occurs-run world (event.Lose c.args.node) allowed c.self.invariant)
