use Rattle.std.proofs.Common.{◌≡◌, length, map, replicate}
use Rattle.kv_ops.proofs.tests.a_beaten_put_gives_its_object_back.Given as goal

abbrev pub invariant-loop : goal.invariant-loop
invariant-loop g l = map length l.nodes ≡ replicate 3 1200
