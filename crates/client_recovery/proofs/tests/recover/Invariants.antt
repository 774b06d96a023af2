use Rattle.std.proofs.Common.{◌≡◌, length, map, replicate}
use Rattle.client_recovery.proofs.tests.recover.Given as goal

abbrev pub invariant-loop : goal.invariant-loop
invariant-loop g l = map length l.nodes ≡ replicate 3 1040
