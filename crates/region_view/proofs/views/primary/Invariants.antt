use Rattle.std.proofs.Common.{◌≡◌, ℕ, ◌<◌, false}
use Rattle.region_view.specs.Placed.{in_mask, placed_node}
use Rattle.region_view.proofs.views.primary.Given as goal

abbrev pub invariant-loop-i : goal.invariant-loop-i
invariant-loop-i l = (k : ℕ) → k < l.i → in_mask l.mask (placed_node l.shape l.region k) ≡ false
