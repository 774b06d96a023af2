use Rattle.std.proofs.Common.{true, sym, ◌∙◌}
use Rattle.machine.specs.Client.{is_idle}
use Rattle.machine_world.specs.World.{client_at}
use Rattle.sim_run.proofs.CourseLemmas.{goes-if, goes-rests}
use Rattle.sim_run.specs.Course.{course_of}
use Rattle.sim_run.proofs.driving.step.Goals as goal

pub returns-then-is_idle : goal.returns-then-is_idle
returns-then-is_idle c =
    let before = course_of c.args.simulator.now in
    goes-if before before (is_idle (client_at before.driver.world c.args.client)) true _ _ (sym c.is_idle.ensures ∙ c.if-is_idle.true) (sym (goes-rests before))
