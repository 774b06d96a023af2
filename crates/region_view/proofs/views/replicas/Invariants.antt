use Rattle.std.proofs.Common.{◌≡◌, ◌≤◌, length, map, filter}
use Rattle.std.specs.List.{range_with_len}
use Rattle.region_view.specs.Placed.{in_mask, placed_node}
use Rattle.region_view.proofs.views.replicas.Given as goal

abbrev pub invariant-loop-i : goal.invariant-loop-i
invariant-loop-i l = record {
  made : l.nodes.items ≡ filter (in_mask l.mask) (map (placed_node l.shape l.region) (range_with_len 0 l.i));
  few : length l.nodes.items ≤ l.i;
}
