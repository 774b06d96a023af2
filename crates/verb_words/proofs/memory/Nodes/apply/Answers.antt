use Rattle.std.proofs.Common.{◌∙◌, ap, map, length}
use Rattle.verb_words.proofs.WordsLemmas.{map_length-with_word}
use Rattle.verb_words.proofs.memory.Nodes.apply.Goals as goal
use Rattle.verb_words.proofs.memory.Nodes.apply.Goals.{then-word-found, else-word-found}

pub returns-clause-shape : goal.returns-clause-shape
returns-clause-shape c = elim c.if-word-found.branch [
  | then-word-found w ↦ ap (map length) (w.self-is ∙ w.store.ensures) ∙ map_length-with_word _ _ _
  | else-word-found w ↦ ap (map length) w.self-is
]
