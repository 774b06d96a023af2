use Rattle.std.proofs.Common.{below_more}
use Rattle.region_view.proofs.views.bare_region.Goals as goal

pub loop-region-preserved : goal.loop-region-preserved
loop-region-preserved c = below_more _ _ c.loop-region.invariant (rw c.if-not-has_replica.false at c.has_replica.ensures)
