use Rattle.std.proofs.Common.{◌≡◌, length, map, replicate}
use Rattle.node_recovery.proofs.tests.run.Given as goal

abbrev pub invariant-loop-verbs : goal.invariant-loop-verbs
invariant-loop-verbs g l = map length l.nodes ≡ replicate 4 688
