use Rattle.std.specs.Prelude.{◌≡◌, ◌≢◌, ℕ, ◌<◌, ◌≤◌, Bool, not, ◌==◌, ◌&&◌, List, [], length, slice_index, slice_index_or, slice_set}
use Rattle.verb_words.specs.declared.verbs.Place.{Place}

-- the words of all nodes are one list for each node, the control node's first; here those on one node
abbrev pub words_on : List (List ℕ) → ℕ → List ℕ
words_on words node = slice_index_or words node []

-- there is such a node, and it has a word at such a position
pub record HasPlace (words : List (List ℕ)) (place : Place) : Type 0 where
  pub node : place.node < length words
  pub at : place.at < length (words_on words place.node)

-- the word at a place
abbrev pub word_at : List (List ℕ) → Place → ℕ
word_at words place = slice_index (words_on words place.node) place.at

-- the words, with this word at the place
abbrev pub with_word : List (List ℕ) → Place → ℕ → List (List ℕ)
with_word words place word =
    slice_set words place.node (slice_set (words_on words place.node) place.at word)

-- the status word of a node: the control node's word of that number
abbrev pub status_of : List (List ℕ) → ℕ → ℕ
status_of words node = slice_index (words_on words 0) node

-- a node is lost: it is not the control node, and its status word is not 0
abbrev pub is_lost : List (List ℕ) → ℕ → Bool
is_lost words node = not (node == 0) && not (status_of words node == 0)

-- the next position, from another on, whose word is not 0; or the end, where there is none
pub record IsNextStored (words : List ℕ) (from at : ℕ) : Type 0 where
  pub least : from ≤ at
  pub most : at ≤ length words
  pub stored : at < length words → slice_index words at ≢ 0
  pub zeros : (other : ℕ) → from ≤ other → other < at → slice_index words other ≡ 0
