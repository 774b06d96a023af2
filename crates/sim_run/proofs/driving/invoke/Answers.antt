use Rattle.std.proofs.Common.{false, Some, sym, ap, ◌∙◌}
use Rattle.std.specs.Prelude.{option_map, slice_get}
use Rattle.machine.specs.Client.{is_idle}
use Rattle.machine_world.specs.World.{client_at}
use Rattle.sim_plan.specs.Made.{plan}
use Rattle.sim_run.proofs.CourseLemmas.{goes-if, goes-rests, invokes-none, invokes-some, on-ok}
use Rattle.sim_run.specs.Course.{course_of}
use Rattle.sim_run.proofs.driving.invoke.Goals as goal

pub returns-then-not-is_idle : goal.returns-then-not-is_idle
returns-then-not-is_idle c =
    let before = course_of c.args.simulator.now in
    goes-if before before (is_idle (client_at before.driver.world c.args.client)) false _ _ (sym c.is_idle.ensures ∙ c.if-not-is_idle.true) (sym (goes-rests before))

pub returns-in_ok-copy-in-Some : goal.returns-in_ok-copy-in-Some
returns-in_ok-copy-in-Some c =
    let numbers = c.args.work.now.numbers in
    let before = course_of c.args.simulator.now in
    let next = ap (slice_get (plan numbers.seed c.args.client numbers.calls)) (sym c.number-number.ensures) ∙ sym c.call.ensures ∙ ap (option_map (λ call. call.now)) c.in-Some.is in
    on-ok c.invoke.result
    (λ is. invokes-some numbers c.args.client before c.in_ok-copy-in-Some.field-0 c.invoke.new.self (sym c.is_idle.ensures ∙ c.if-not-is_idle.false) (next ∙ ap (λ call. Some call) (sym c.in_ok-copy-in-Some.ensures)) is)
    c.invoke.ensures

pub returns-in-None : goal.returns-in-None
returns-in-None c =
    let numbers = c.args.work.now.numbers in
    let before = course_of c.args.simulator.now in
    let next = ap (slice_get (plan numbers.seed c.args.client numbers.calls)) (sym c.number-number.ensures) ∙ sym c.call.ensures ∙ ap (option_map (λ call. call.now)) c.in-None.is in
    invokes-none numbers c.args.client before (sym c.is_idle.ensures ∙ c.if-not-is_idle.false) next
