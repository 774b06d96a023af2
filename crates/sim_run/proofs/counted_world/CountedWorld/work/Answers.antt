use Rattle.std.proofs.Common.{◌+◌, ap, ◌∙◌}
use Rattle.machine_world.specs.Refusals.{refusal}
use Rattle.machine_world.specs.declared.events.Event.TheVariants as event
use Rattle.sim_run.proofs.EventLemmas.{verb-after}
use Rattle.sim_run.specs.Counted.{Counted}
use Rattle.sim_run.specs.declared.takers.Taker.TheVariants as taker
use Rattle.sim_run.proofs.counted_world.CountedWorld.work.Goals as goal

pub invariant_of-self-2 : goal.invariant_of-self-2
invariant_of-self-2 c =
    let world = c.self.inside.world in
    let same = ap (λ (counted : Counted). counted.world) c.self.view_is in
    verb-after taker.Master world c.advance.new.world c.in_ok-happened.happened c.self.inside.verbs c.self.inside.returned _ c.self.inside.made.items c.self.inside.awaits
    (ap (λ w. refusal w event.Work) same ∙ c.requires.lawful)
    c.in_ok-happened.ensures.world
    c.in_ok-happened.ensures.happened
    (ap (λ n. c.self.inside.returned + n) c.returns_in.ensures.count) c.self.invariant
