use Rattle.std.proofs.Common.{ap, ◌∙◌}
use Rattle.machine_world.specs.declared.events.Event.TheVariants as event
use Rattle.sim_run.proofs.EventLemmas.{invokes-after, lawful}
use Rattle.sim_run.specs.Told.{number_in}
use Rattle.sim_run.proofs.counted_world.CountedWorld.invoke.Goals as goal

pub invariant_of-self-2 : goal.invariant_of-self-2
invariant_of-self-2 c =
    invokes-after c.self.inside.world c.advance.new.world c.args.client c.number_in-number.result c.self.inside.verbs c.self.inside.returned c.args.call c.self.inside.made.items c.self.inside.awaits
    (lawful c.self.inside.world (event.Invoke c.args.client c.args.call) c.refusal.result c.is_some.result c.refusal.ensures c.is_some.ensures c.if-is_some.false) c.in_ok-advance.ensures.world
    (c.number_in-number.ensures ∙ ap number_in c.in_ok-advance.ensures.happened) c.self.invariant
