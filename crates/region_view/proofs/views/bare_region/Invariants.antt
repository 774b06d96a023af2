use Rattle.std.proofs.Common.{ℕ, ◌<◌}
use Rattle.region_view.specs.Placed.{HasReplica}
use Rattle.region_view.proofs.views.bare_region.Given as goal

abbrev pub invariant-loop-region : goal.invariant-loop-region
invariant-loop-region l = (region : ℕ) → region < l.region → HasReplica l.shape l.mask region
