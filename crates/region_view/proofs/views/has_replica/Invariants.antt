use Rattle.std.proofs.Common.{◌≡◌, ℕ, ◌<◌, false}
use Rattle.region_view.specs.Placed.{in_mask, placed_node}
use Rattle.region_view.proofs.views.has_replica.Given as goal

abbrev pub invariant-loop-i : goal.invariant-loop-i
invariant-loop-i l = (i : ℕ) → i < l.i → in_mask l.mask (placed_node l.shape l.region i) ≡ false
