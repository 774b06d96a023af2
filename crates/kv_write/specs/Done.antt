-- A writing of words, some verbs on.
use Rattle.std.specs.Prelude.{ℕ, zero, suc}
use Rattle.machine.specs.WordsWrite.{WordsWrite, turn}
use Rattle.verb_words.specs.declared.verbs.Answer.TheVariants.{Done}

-- the writing after so many of its verbs were done
abbrev pub done : ℕ → WordsWrite → WordsWrite
done zero write = write
done (suc verbs) write = (turn (done verbs write) Done).state
