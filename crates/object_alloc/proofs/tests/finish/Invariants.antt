use Rattle.std.proofs.Common.{◌≡◌, length, map, replicate}
use Rattle.object_alloc.proofs.tests.finish.Given as goal

abbrev pub invariant-loop : goal.invariant-loop
invariant-loop g l = map length l.nodes ≡ replicate 3 1040
