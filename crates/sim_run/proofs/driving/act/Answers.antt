use Rattle.std.proofs.Common.{true, false, sym, ◌∙◌, arith}
use Rattle.sim_meaning.proofs.CountLemmas.{invokes-within}
use Rattle.sim_meaning.proofs.RunLemmas.{invokes-run}
use Rattle.sim_meaning.specs.Driver.{invokes, is_passed_over, rests, steps}
use Rattle.sim_run.proofs.CourseLemmas.{goes-events, goes-followed, goes-if, goes-rests, on-ok}
use Rattle.sim_run.specs.Course.{course_of}
use Rattle.sim_run.proofs.driving.act.Goals as goal

pub returns-then-is_passed_over : goal.returns-then-is_passed_over
returns-then-is_passed_over c =
    let before = course_of c.args.simulator.now in
    goes-if before before (is_passed_over c.args.work.now.numbers before.driver.world c.args.client) true _ _ (sym c.is_passed_over.ensures ∙ c.if-is_passed_over.true) (sym (goes-rests before))

pub step-requires : goal.step-requires
step-requires c =
    let before = course_of c.args.simulator.now in
    let numbers = c.args.work.now.numbers in
    let more = goes-events before (course_of c.invoke.new.simulator) (invokes numbers c.args.client before.driver) 1 (invokes-run numbers c.args.client before.driver) (invokes-within numbers c.args.client before.driver) c.in_ok-invoke.ensures in
    omega (arith, more, c.requires.room)

pub returns : goal.returns
returns c =
    let before = course_of c.args.simulator.now in
    let numbers = c.args.work.now.numbers in
    on-ok c.step.result
    (λ is.
    goes-if before (course_of c.step.new.simulator) (is_passed_over numbers before.driver.world c.args.client) false (rests before.driver) _ (sym c.is_passed_over.ensures ∙ c.if-is_passed_over.false)
    (is ∙ sym (goes-followed before (course_of c.invoke.new.simulator) (invokes numbers c.args.client before.driver) (steps numbers c.args.word c.args.client) (invokes-run numbers c.args.client before.driver) c.in_ok-invoke.ensures)))
    c.step.ensures
