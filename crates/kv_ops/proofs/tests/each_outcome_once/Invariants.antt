use Rattle.std.proofs.Common.{◌≡◌, length, map, replicate}
use Rattle.kv_ops.proofs.tests.each_outcome_once.Given as goal

abbrev pub invariant-loop-slot : goal.invariant-loop-slot
invariant-loop-slot g l = map length l.nodes ≡ replicate 3 1200
