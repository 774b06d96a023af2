use Rattle.machine_world.specs.declared.events.Event.TheVariants as event
use Rattle.sim_run.proofs.EventLemmas.{lawful, registers-after}
use Rattle.sim_run.proofs.counted_world.CountedWorld.register.Goals as goal

pub invariant_of-self-2 : goal.invariant_of-self-2
invariant_of-self-2 c =
    rw c.in_ok-push.ensures.items
    (registers-after c.self.inside.world c.advance.new.world _ _ _ _
    (lawful c.self.inside.world event.Register c.refusal.result c.is_some.result c.refusal.ensures c.is_some.ensures c.if-is_some.false) c.in_ok-advance.ensures.world c.self.invariant)
