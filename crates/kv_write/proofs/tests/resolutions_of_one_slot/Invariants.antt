use Rattle.std.proofs.Common.{◌≡◌, length, map, replicate}
use Rattle.kv_write.proofs.tests.resolutions_of_one_slot.Given as goal

abbrev pub invariant-loop-index : goal.invariant-loop-index
invariant-loop-index g l = map length l.nodes ≡ replicate 3 688
