use Rattle.std.proofs.Common.{false, sym, ◌∙◌}
use Rattle.sim_meaning.specs.Driver.{awaits_recovery}
use Rattle.sim_run.proofs.CourseLemmas.{goes-if, goes-rests}
use Rattle.sim_run.specs.Course.{course_of}
use Rattle.sim_run.proofs.driving.recover.Goals as goal

pub returns-then-not-awaits_recovery : goal.returns-then-not-awaits_recovery
returns-then-not-awaits_recovery c =
    let before = course_of c.args.simulator.now in
    goes-if before before (awaits_recovery before.driver.world c.args.client) false _ _ (sym c.awaits_recovery.ensures ∙ c.if-not-awaits_recovery.true) (sym (goes-rests before))
