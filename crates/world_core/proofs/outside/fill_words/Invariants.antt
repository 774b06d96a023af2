-- The words that were written so far, and what is left of the old ones.
use Rattle.std.proofs.Common.{◌≡◌, ◌++◌, drop}
use Rattle.std.specs.Prelude.{replicate, slice_set}
use Rattle.verb_words.specs.Words.{words_on}
use Rattle.world_core.proofs.outside.fill_words.Given as goal

abbrev pub invariant-loop-at : goal.invariant-loop-at
invariant-loop-at l = l.nodes ≡ slice_set l.fn.nodes l.fn.node (replicate l.at l.fn.word ++ drop l.at (words_on l.fn.nodes l.fn.node))
