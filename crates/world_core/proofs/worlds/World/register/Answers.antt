use Rattle.std.proofs.Common.{◌≡◌, ◌∷◌, ◌++◌, [], ◌+◌, ap, arith, length, map, subst, sym, ◌∙◌, None}
use Rattle.machine_world.specs.Refusals.{refusal}
use Rattle.machine_world.specs.World.{nobody}
use Rattle.machine_world.specs.declared.events.Event.TheVariants as event
use Rattle.verb_history.specs.Moments.{moment_of}
use Rattle.world_core.specs.Fields.{world_of}
use Rattle.world_core.specs.Reached.{IsRun}
use Rattle.world_core.specs.Working.{task_of}
use Rattle.world_core.proofs.ReachedLemmas.{occurs-run}
use Rattle.machine.specs.Stage.{first_client}
use Rattle.world_core.proofs.EventLemmas.{reads-left}
use Rattle.world_core.proofs.worlds.World.register.Goals as goal

pub register-requires : goal.register-requires
register-requires c =
    let world = world_of c.self.inside in
    let allowed : refusal world event.Register ≡ None = ap (λ w. refusal w event.Register) c.self.view_is ∙ c.requires.allowed in
    reads-left world c.self.invariant allowed

pub invariant_of-self-2 : goal.invariant_of-self-2
invariant_of-self-2 c =
    let world = world_of c.self.inside in
    let allowed : refusal world event.Register ≡ None = ap (λ w. refusal w event.Register) c.self.view_is ∙ c.requires.allowed in
    let number : c.len.result + 1 ≡ length world.clients = omega (arith, c.len.ensures) in
    let clients = c.push_reserved.ensures.items
    ∙ (λ i. c.reserve.ensures.items i ++ (c.in_ok-actor.ensures ∙ ap (λ n. first_client n c.self.inside.shape) number) i ∷ []) in
    subst IsRun (sym (λ i. record {
      shape = c.self.inside.shape;
      nodes = c.self.inside.nodes;
      clients = nobody c.self.inside.shape ∷ clients i;
      master = record { task = task_of c.self.inside.task; won = c.self.inside.won; settled = c.self.inside.settled; recovered = c.self.inside.recovered };
      stopped = c.self.inside.stopped;
      trace = map moment_of c.self.inside.trace.items;
      ledger = c.register.ensures.ledger i;
      events = c.self.inside.events + 1;
    }))
    (occurs-run world event.Register allowed c.self.invariant)
