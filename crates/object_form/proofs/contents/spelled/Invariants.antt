use Rattle.std.proofs.Common.{◌≡◌, take}
use Rattle.object_form.specs.Content.{bytes_of_words}
use Rattle.object_form.proofs.contents.spelled.Given as goal

abbrev pub invariant-loop-index : goal.invariant-loop-index
invariant-loop-index l = take l.index (bytes_of_words l.words) ≡ take l.index l.bytes
