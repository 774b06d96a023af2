use Rattle.std.proofs.Common.{◌≡◌, ◌≤◌, length, map, filter}
use Rattle.std.specs.List.{range_with_len}
use Rattle.region_view.specs.Placed.{in_mask, placed_node}
use Rattle.region_view.proofs.views.word_places.Given as goal

abbrev pub invariant-loop-i : goal.invariant-loop-i
invariant-loop-i l = record {
  made : l.places.items ≡ map (λ node. (node, l.at)) (filter (in_mask l.mask) (map (placed_node l.shape l.region) (range_with_len 0 l.i)));
  few : length l.places.items ≤ l.i;
}
