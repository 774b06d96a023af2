use Rattle.std.specs.Prelude.{ℕ, Bool, ◌&&◌, List, if◌then◌else◌}
use Rattle.verb_words.specs.declared.verbs.Verb.{Verb}
use Rattle.verb_words.specs.declared.verbs.Answer.{Answer}
use Rattle.verb_words.specs.declared.verbs.Answer.TheVariants.{Lost}
use Rattle.verb_words.specs.Verb.{place_of, word_after, answer_of}
use Rattle.verb_words.specs.Words.{word_at, with_word, is_lost}

-- a verb is refused: refusing is asked for, and the node that it goes to is lost
abbrev pub is_refused : List (List ℕ) → Verb → Bool → Bool
is_refused words verb refuse = refuse && is_lost words (place_of verb).node

-- the answer to a verb: a refused one finds no word
abbrev pub answer_to : List (List ℕ) → Verb → Bool → Answer
answer_to words verb refuse =
    if is_refused words verb refuse then Lost else answer_of verb (word_at words (place_of verb))

-- the words after a verb: a refused one changes nothing
abbrev pub words_after : List (List ℕ) → Verb → Bool → List (List ℕ)
words_after words verb refuse =
    if is_refused words verb refuse
    then words
    else with_word words (place_of verb) (word_after verb (word_at words (place_of verb)))
