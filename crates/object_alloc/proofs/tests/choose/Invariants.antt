use Rattle.std.proofs.Common.{◌≡◌, length, map, replicate}
use Rattle.machine.specs.Choosing.{IsTaken}
use Rattle.object_alloc.proofs.tests.choose.Given as goal

abbrev pub invariant-loop : goal.invariant-loop
invariant-loop g l = record {
  nodes : map length l.nodes ≡ replicate 3 1040;
  shape : l.stock.shape ≡ l.fn.stock.shape;
  class : l.stock.class ≡ 3;
  taken : IsTaken l.stock.shape 3 l.told;
}
