use Rattle.sim_run.proofs.EventLemmas.{lawful, leaves-after}
use Rattle.sim_run.proofs.counted_world.CountedWorld.happen.Goals as goal

pub invariant_of-self-2 : goal.invariant_of-self-2
invariant_of-self-2 c =
    leaves-after c.self.inside.world c.advance.new.world c.args.event _ _ _ _ c.requires.leaves
    (lawful c.self.inside.world c.args.event c.refusal.result c.is_some.result c.refusal.ensures c.is_some.ensures c.if-is_some.false) c.in_ok-advance.ensures.world c.self.invariant
