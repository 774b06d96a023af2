use Rattle.std.proofs.Common.{◌≡◌, ◌≢◌, ℕ, Bool, true, false, List, map, length, refl, if◌then◌else◌}
use Rattle.verb_words.specs.declared.verbs.Place.{Place}
use Rattle.verb_words.specs.declared.verbs.Verb.{Verb}
use Rattle.verb_words.specs.declared.verbs.Verb.TheVariants.{Read, Write, Swap, Add}
use Rattle.verb_words.specs.declared.verbs.Answer.TheVariants.{Lost}
use Rattle.verb_words.specs.Verb.{place_of, word_after, answer_of}
use Rattle.verb_words.specs.Words.{word_at, with_word, HasPlace}
use Rattle.verb_words.specs.Applied.{is_refused, answer_to, words_after}
use Rattle.verb_words.proofs.WordsLemmas.{word_at-with_word-same, word_at-with_word-other, map_length-with_word, HasPlace-same_shape}

-- the words that a verb leaves where it is not refused
done_to : List (List ℕ) → Verb → List (List ℕ)
done_to words verb = with_word words (place_of verb) (word_after verb (word_at words (place_of verb)))

-- the shape of the words, the length of each node's list, stays
pub map_length-words_after : (words : List (List ℕ)) (verb : Verb) (refuse : Bool)
    → map length (words_after words verb refuse) ≡ map length words
unfolding done_to
map_length-words_after words verb refuse =
    elim (is_refused words verb refuse) as (λ b. map length (if b then words else done_to words verb) ≡ map length words) [
      | true ↦ refl
      | false ↦ map_length-with_word words (place_of verb) (word_after verb (word_at words (place_of verb)))
    ]

-- a place that exists is there still after a verb
pub HasPlace-words_after : (words : List (List ℕ)) (verb : Verb) (refuse : Bool) (place : Place)
    → HasPlace words place → HasPlace (words_after words verb refuse) place
HasPlace-words_after words verb refuse place =
    HasPlace-same_shape words (words_after words verb refuse) place (map_length-words_after words verb refuse)

-- a verb that is not refused leaves its word at its place
pub word_at-words_after-same : (words : List (List ℕ)) (verb : Verb) (refuse : Bool)
    → HasPlace words (place_of verb) → is_refused words verb refuse ≡ false
    → word_at (words_after words verb refuse) (place_of verb) ≡ word_after verb (word_at words (place_of verb))
word_at-words_after-same words verb refuse has done =
    rw done (word_at-with_word-same words (place_of verb) (word_after verb (word_at words (place_of verb))) has)

-- each other place holds what it held
pub word_at-words_after-other : (words : List (List ℕ)) (verb : Verb) (refuse : Bool) (place : Place)
    → place ≢ place_of verb → word_at (words_after words verb refuse) place ≡ word_at words place
unfolding done_to
word_at-words_after-other words verb refuse place differs =
    elim (is_refused words verb refuse) as (λ b. word_at (if b then words else done_to words verb) place ≡ word_at words place) [
      | true ↦ refl
      | false ↦
          word_at-with_word-other words (place_of verb) (word_after verb (word_at words (place_of verb))) place differs
    ]

-- a verb that is done never answers `Lost`
only_refused : (refused : Bool) (verb : Verb) (found : ℕ)
    → (if refused then Lost else answer_of verb found) ≡ Lost → refused ≡ true
only_refused true verb found lost = refl
only_refused false (Read place) found lost = cc
only_refused false (Write place word) found lost = cc
only_refused false (Swap place expect fresh) found lost = cc
only_refused false (Add place more) found lost = cc

-- `Lost` is the answer only to a verb that was refused
pub is_refused-from_Lost : (words : List (List ℕ)) (verb : Verb) (refuse : Bool)
    → answer_to words verb refuse ≡ Lost → is_refused words verb refuse ≡ true
is_refused-from_Lost words verb refuse =
    only_refused (is_refused words verb refuse) verb (word_at words (place_of verb))
