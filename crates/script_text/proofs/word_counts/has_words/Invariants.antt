use Rattle.std.proofs.Common.{◌≡◌, ◌+◌, length}
use Rattle.text_lines.specs.Words.{words_of}
use Rattle.script_text.proofs.word_counts.has_words.Given as goal

abbrev pub invariant-loop-seen : goal.invariant-loop-seen
invariant-loop-seen l = length (words_of l.line) ≡ l.seen + length (words_of l.rest)
