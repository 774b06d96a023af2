use Rattle.std.proofs.Common.{true, false, sym, ◌∙◌}
use Rattle.sim_run.proofs.CourseLemmas.{on-ok}
use Rattle.sim_run.proofs.TakesLemmas.{settles-if}
use Rattle.sim_run.proofs.counted_world.CountedWorld.settle.Goals as goal

pub returns-then-is_settling : goal.returns-then-is_settling
returns-then-is_settling c =
    on-ok c.take_up_to.result (λ is. is ∙ sym (settles-if c.args.self.now true (sym c.is_settling.ensures ∙ c.if-is_settling.true))) c.take_up_to.ensures

pub returns-else-is_settling : goal.returns-else-is_settling
returns-else-is_settling c =
    on-ok c.work_on.result (λ is. is ∙ sym (settles-if c.args.self.now false (sym c.is_settling.ensures ∙ c.if-is_settling.false))) c.work_on.ensures
