use Rattle.std.proofs.Common.{◌+◌, ap, refl, sym, ◌∙◌}
use Rattle.std.specs.Prelude.{if◌then◌else◌}
use Rattle.kv_ops.specs.Stepping.{is_ended}
use Rattle.machine_world.proofs.EventLemmas.{occurred}
use Rattle.machine_world.specs.Events.{comes_to}
use Rattle.machine_world.specs.Refusals.{refusal}
use Rattle.machine_world.specs.declared.events.Event.TheVariants as event
use Rattle.sim_run.proofs.EventLemmas.{verb-after}
use Rattle.sim_run.specs.Counted.{Counted}
use Rattle.sim_run.specs.declared.takers.Taker.TheVariants as taker
use Rattle.sim_run.proofs.counted_world.CountedWorld.step.Goals as goal

pub invariant_of-self-2 : goal.invariant_of-self-2
invariant_of-self-2 c =
    let world = c.self.inside.world in
    let same = ap (λ (counted : Counted). counted.world) c.self.view_is in
    let lawful = ap (λ w. refusal w (event.Step c.args.client)) same ∙ c.requires.lawful in
    verb-after (taker.Client c.args.client) world c.step.new.self (comes_to world (event.Step c.args.client)) c.self.inside.verbs c.self.inside.returned _ c.self.inside.made.items c.self.inside.awaits
    lawful
    (c.in_ok-step.ensures.world ∙ sym (occurred world (event.Step c.args.client) lawful))
    refl
    (ap (λ n. c.self.inside.returned + n) (c.returns_by.ensures.count ∙ ap (λ step. if is_ended step then 1 else 0) c.in_ok-step.ensures.told)) c.self.invariant
