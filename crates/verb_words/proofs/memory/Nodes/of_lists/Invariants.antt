use Rattle.std.proofs.Common.{◌≡◌, ◌<◌, ◌≤◌, ℕ, false, length, slice_index_or}
use Rattle.verb_words.specs.Words.{is_lost}
use Rattle.verb_words.specs.Lists.{words_of}
use Rattle.verb_words.proofs.memory.Nodes.of_lists.Given as goal

abbrev pub invariant-loop-node : goal.invariant-loop-node
invariant-loop-node l = (1 ≤ l.node) × (l.node ≤ 9) × (length l.lost ≡ 9) × ((node : ℕ) → node < l.node → slice_index_or l.lost node false ≡ is_lost (words_of l.lists) node)
