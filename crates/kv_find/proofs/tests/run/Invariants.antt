use Rattle.std.proofs.Common.{◌≡◌, length, map, replicate}
use Rattle.kv_find.proofs.tests.run.Given as goal

abbrev pub invariant-loop-verbs : goal.invariant-loop-verbs
invariant-loop-verbs g l = map length l.nodes ≡ replicate 2 688
