use Rattle.std.proofs.Common.{take}
use Rattle.kv_ops.specs.Places.{HasNone, pairs_in}
use Rattle.kv_ops.proofs.remembered.Remembered.rank_of.Given as goal

abbrev pub invariant-loop-i : goal.invariant-loop-i
invariant-loop-i l = HasNone (take l.i (pairs_in l.self-inside.pairs.items l.self-inside.order.items)) l.key
