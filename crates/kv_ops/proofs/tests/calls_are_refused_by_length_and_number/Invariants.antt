use Rattle.std.proofs.Common.{◌≡◌, length, map, replicate}
use Rattle.kv_ops.proofs.tests.calls_are_refused_by_length_and_number.Given as goal

abbrev pub invariant-loop : goal.invariant-loop
invariant-loop g l = map length l.nodes ≡ replicate 3 1200
