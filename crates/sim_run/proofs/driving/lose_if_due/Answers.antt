use Rattle.std.proofs.Common.{true, false, ◌+◌, [], ◌∷◌, refl, sym, ◌∙◌, arith}
use Rattle.machine_world.specs.declared.events.Event.TheVariants as event
use Rattle.script_meaning.specs.Lines.{meaning}
use Rattle.script_text.specs.declared.out_lines.OutLine.TheVariants as out
use Rattle.script_text.specs.declared.scripts.Line.TheVariants as line
use Rattle.sim_meaning.specs.Driver.{is_loss_due, loses, rests}
use Rattle.sim_run.proofs.CourseLemmas.{counts-event, goes-carried, goes-if, goes-rests, on-ok, with_counted}
use Rattle.sim_run.specs.Course.{Course, course_of}
use Rattle.sim_run.proofs.driving.lose_if_due.Goals as goal

pub returns-then-not-is_loss_due : goal.returns-then-not-is_loss_due
returns-then-not-is_loss_due c =
    let before = course_of c.args.simulator.now in
    goes-if before before (is_loss_due c.args.numbers.now before.driver) false (loses before.driver) (rests before.driver) (sym c.is_loss_due.ensures.due ∙ c.if-not-is_loss_due.true) (sym (goes-rests before))

pub overflow_add-simulator : goal.overflow_add-simulator
overflow_add-simulator c = let left = c.is_loss_due.ensures.left c.if-not-is_loss_due.false in omega (arith, left)

pub returns : goal.returns
returns c =
    let before = course_of c.args.simulator.now in
    let node = before.driver.losses + 1 in
    let lost : Course = record { driver = record before.driver { losses = node; settling = true }; verbs = before.verbs } in
    on-ok c.happen.result
    (λ is.
    goes-if before (with_counted lost c.happen.new.self) (is_loss_due c.args.numbers.now before.driver) true (loses before.driver) (rests before.driver) (sym c.is_loss_due.ensures.due ∙ c.if-not-is_loss_due.false)
    (goes-carried lost c.happen.new.self (meaning false before.driver.world (line.Lose node)) (is ∙ sym (counts-event c.args.simulator.now.counted (event.Lose node) (out.Lost node ∷ []) refl))))
    c.happen.ensures
