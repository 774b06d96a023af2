use Rattle.std.proofs.Common.{false, refl, sym, ap, ◌∙◌, arith}
use Rattle.machine_world.specs.declared.events.Event.TheVariants as event
use Rattle.script_meaning.specs.Lines.{most_verbs, takes_up_to}
use Rattle.sim_meaning.proofs.RoomLemmas.{happens-counted}
use Rattle.sim_run.proofs.CourseLemmas.{on-ok}
use Rattle.sim_run.proofs.TakesLemmas.{lawful-now, task-begun, task-unless}
use Rattle.sim_run.specs.Counted.{Counted, counts}
use Rattle.sim_run.proofs.counted_world.CountedWorld.work_on.Goals as goal

pub returns-then-is_some : goal.returns-then-is_some
returns-then-is_some c =
    task-unless c.args.self.now c.args.task c.self.inside.world c.refusal.result c.is_some.result
    (ap (λ (counted : Counted). counted.world) c.self.view_is) c.refusal.ensures c.is_some.ensures c.if-is_some.true

pub take_up_to-requires : goal.take_up_to-requires
take_up_to-requires c =
    omega (arith, c.requires, ap (λ (counted : Counted). counted.world.events) c.in_ok-happen.ensures, happens-counted c.args.self.now.world (event.Choose c.args.task))

pub returns : goal.returns
returns c =
    let lawful = lawful-now c.args.self.now (event.Choose c.args.task) (event.Choose c.args.task) c.self.inside.world c.refusal.result c.is_some.result
    (ap (λ (counted : Counted). counted.world) c.self.view_is) refl c.refusal.ensures c.is_some.ensures c.if-is_some.false in
    on-ok c.take_up_to.result
    (λ is. is ∙ ap (λ (counted : Counted). counts counted (takes_up_to most_verbs false event.Work counted.world)) c.in_ok-happen.ensures ∙ sym (task-begun c.args.self.now c.args.task lawful))
    c.take_up_to.ensures
