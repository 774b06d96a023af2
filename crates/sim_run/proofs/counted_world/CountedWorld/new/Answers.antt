use Rattle.std.proofs.Common.{false, sym, subst}
use Rattle.machine_world.specs.World.{first_world}
use Rattle.sim_run.proofs.EventLemmas.{first-kept}
use Rattle.sim_run.specs.Counted.{IsCounted}
use Rattle.sim_run.proofs.counted_world.CountedWorld.new.Goals as goal

pub invariant_of-result : goal.invariant_of-result
invariant_of-result c =
    subst (λ world. IsCounted world 0 0 c.in_ok-made.made.items false) (sym c.in_ok-world.ensures)
    (subst (λ items. IsCounted (first_world c.args.shape) 0 0 items false) (sym c.in_ok-made.ensures.items) (first-kept c.args.shape))
