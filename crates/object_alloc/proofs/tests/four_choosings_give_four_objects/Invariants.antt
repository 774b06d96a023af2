use Rattle.std.proofs.Common.{◌≡◌, length, map, replicate}
use Rattle.object_alloc.proofs.tests.four_choosings_give_four_objects.Given as goal

abbrev pub invariant-loop-expected : goal.invariant-loop-expected
invariant-loop-expected g l = record {
  nodes : map length l.nodes ≡ replicate 3 1040;
  shape : l.view.shape ≡ l.stock.shape;
}
