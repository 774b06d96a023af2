use Rattle.std.specs.Prelude.{ℕ, ◌+◌, ◌%◌, ◌^◌, ◌==◌, if◌then◌else◌}
use Rattle.verb_words.specs.declared.verbs.Place.{Place}
use Rattle.verb_words.specs.declared.verbs.Verb.{Verb}
use Rattle.verb_words.specs.declared.verbs.Verb.TheVariants.{Read, Write, Swap, Add}
use Rattle.verb_words.specs.declared.verbs.Answer.{Answer}
use Rattle.verb_words.specs.declared.verbs.Answer.TheVariants.{Word, Done}

-- the place that a verb goes to
abbrev pub place_of : Verb → Place
place_of (Read place) = place
place_of (Write place word) = place
place_of (Swap place expect fresh) = place
place_of (Add place more) = place

-- the word that a verb leaves at its place, where it finds this one
abbrev pub word_after : Verb → ℕ → ℕ
word_after (Read place) found = found
word_after (Write place word) found = word
word_after (Swap place expect fresh) found = if found == expect then fresh else found
word_after (Add place more) found = (found + more) % 2 ^ 64

-- what a verb answers, where it finds this word
abbrev pub answer_of : Verb → ℕ → Answer
answer_of (Read place) found = Word found
answer_of (Write place word) found = Done
answer_of (Swap place expect fresh) found = Word found
answer_of (Add place more) found = Word found
