use Rattle.std.proofs.Common.{◌≡◌, ◌++◌, map}
use Rattle.std.specs.List.{range_with_len}
use Rattle.object_form.specs.Content.{word_from}
use Rattle.object_form.proofs.contents.padded.Given as goal

abbrev pub invariant-loop-index : goal.invariant-loop-index
invariant-loop-index l =
    l.into.items ≡ l.fn.into.items ++ map (word_from l.bytes) (range_with_len 0 l.index)
