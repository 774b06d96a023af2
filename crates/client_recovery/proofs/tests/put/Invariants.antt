use Rattle.std.proofs.Common.{◌≡◌, length, map, replicate}
use Rattle.client_recovery.proofs.tests.put.Given as goal

abbrev pub invariant-loop-index : goal.invariant-loop-index
invariant-loop-index g l = map length l.nodes ≡ replicate 3 1040
