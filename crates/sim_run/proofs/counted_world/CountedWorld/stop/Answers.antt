use Rattle.machine_world.specs.declared.events.Event.TheVariants as event
use Rattle.sim_run.proofs.EventLemmas.{lawful, stops-after}
use Rattle.sim_run.proofs.counted_world.CountedWorld.stop.Goals as goal

pub invariant_of-self-2 : goal.invariant_of-self-2
invariant_of-self-2 c =
    stops-after c.self.inside.world c.advance.new.world c.args.client _ _ _ _
    (lawful c.self.inside.world (event.Stop c.args.client) c.refusal.result c.is_some.result c.refusal.ensures c.is_some.ensures c.if-is_some.false) c.in_ok-advance.ensures.world c.self.invariant
