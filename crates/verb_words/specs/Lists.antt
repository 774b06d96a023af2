use Rattle.std.specs.Prelude.{ℕ, List, map}
use Rattle.verb_words.specs.declared.memory.Lists.{Lists}
use Rattle.verb_words.specs.declared.memory.Lists.TheVariants.{Whole, Paged}

-- the words of all nodes, as their lists hold them
abbrev pub words_of : Lists → List (List ℕ)
words_of (Whole lists) = map (λ list. list.items) lists.items
words_of (Paged lists) = lists.items
