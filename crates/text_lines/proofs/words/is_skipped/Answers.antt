use Rattle.std.proofs.Common.{refl}
use Rattle.text_lines.specs.Words.{is_skipped}
use Rattle.text_lines.proofs.words.is_skipped.Goals as goal

pub returns-in-Some : goal.returns-in-Some
unfolding is_skipped
returns-in-Some c = let first = c.in-Some.ensures in rw first.parts c.begins_note.ensures

pub returns-in-None : goal.returns-in-None
unfolding is_skipped
returns-in-None c = rw c.in-None.ensures refl
