use Rattle.std.proofs.Common.{◌≡◌, min, fold, take, slice_index}
use Rattle.snapshot_rules.proofs.rules.least.Given as goal

abbrev pub invariant-loop-word : goal.invariant-loop-word
invariant-loop-word l = l.least ≡ fold min (slice_index l.list 0) (take l.word-index l.list)
