use Rattle.std.proofs.Common.{◌≡◌, ◌∷◌, ◌++◌, [], ◌+◌, ap, map, subst, sym, ◌∙◌, None}
use Rattle.machine_world.specs.Refusals.{refusal}
use Rattle.machine_world.specs.World.{nobody}
use Rattle.machine_world.specs.declared.events.Event.TheVariants as event
use Rattle.verb_history.specs.Moments.{moment_of}
use Rattle.world_core.specs.Fields.{world_of}
use Rattle.world_core.specs.Reached.{IsRun}
use Rattle.world_core.specs.Working.{task_of}
use Rattle.world_core.proofs.ReachedLemmas.{occurs-run}
use Rattle.std.proofs.lemmas.List.{map_push}
use Rattle.verb_history.specs.declared.moments.Moment.TheVariants as moment
use Rattle.world_core.proofs.AllowedLemmas.{client-allowed}
use Rattle.world_core.proofs.worlds.World.stop.Goals as goal

pub invariant_of-self-2 : goal.invariant_of-self-2
invariant_of-self-2 c =
    let world = world_of c.self.inside in
    let allowed : refusal world (event.Stop c.args.client) ≡ None = ap (λ w. refusal w (event.Stop c.args.client)) c.self.view_is ∙ c.requires.allowed in
    let running = (client-allowed world c.args.client None allowed).2 in
    let told = ap (map moment_of) (c.push_reserved.ensures.items ∙ ap (λ list. list ++ moment.Stopped c.args.client ∷ []) c.reserve.ensures.items) ∙ map_push moment_of c.self.inside.trace.items (moment.Stopped c.args.client) in
    subst IsRun (sym (λ i. record {
      shape = c.self.inside.shape;
      nodes = c.self.inside.nodes;
      clients = nobody c.self.inside.shape ∷ c.self.inside.clients.items;
      master = record { task = task_of c.self.inside.task; won = c.self.inside.won; settled = c.self.inside.settled; recovered = c.self.inside.recovered };
      stopped = c.add.ensures.first running i;
      trace = told i;
      ledger = c.self.inside.ledger.ledger;
      events = c.self.inside.events + 1;
    }))
    (occurs-run world (event.Stop c.args.client) allowed c.self.invariant)
