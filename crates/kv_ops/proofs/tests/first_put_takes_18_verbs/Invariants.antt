use Rattle.std.proofs.Common.{◌≡◌, length, map, replicate}
use Rattle.kv_ops.proofs.tests.first_put_takes_18_verbs.Given as goal

abbrev pub invariant-loop-verb : goal.invariant-loop-verb
invariant-loop-verb g l = map length l.nodes ≡ replicate 3 1200
