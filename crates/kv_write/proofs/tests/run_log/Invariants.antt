use Rattle.std.proofs.Common.{◌≡◌, length, map, replicate}
use Rattle.kv_write.proofs.tests.run_log.Given as goal

abbrev pub invariant-loop-verbs : goal.invariant-loop-verbs
invariant-loop-verbs g l = map length l.nodes ≡ replicate 3 688
