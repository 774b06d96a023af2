use Rattle.std.proofs.Common.{◌≡◌, ◌≢◌, ℕ, ◌<◌, inl, inr, not, ◌==◌, ◌&&◌, List, [], map, length, set, get_or, sym, ◌∙◌, ap, arith}
use Rattle.std.proofs.Math.ListN as ListN
use Rattle.std.proofs.Math.Seq.{map-set_same}
use Rattle.std.proofs.lemmas.Bool.{cases_lt}
use Rattle.std.proofs.lemmas.Bool.Decides.{eqb_tells}
use Rattle.std.proofs.lemmas.List.{get_or-set_same, get_or-set_other, get_or-map, set-get_or, set_past, map-set, length-map, length-set}
use Rattle.verb_words.specs.declared.verbs.Place.{Place}
use Rattle.verb_words.specs.Words.{words_on, word_at, with_word, is_lost, HasPlace}
use Rattle.verb_words.proofs.PlaceLemmas.{place_ext}

-- what a place holds once a word is put there
pub word_at-with_word-same : (words : List (List ℕ)) (place : Place) (word : ℕ)
    → HasPlace words place → word_at (with_word words place word) place ≡ word
word_at-with_word-same words place word has =
    let put = set (words_on words place.node) place.at word in
    ap (λ list. get_or list place.at 0) (get_or-set_same words place.node put [] has.node)
    ∙ get_or-set_same (words_on words place.node) place.at word 0 has.at

-- the words on another node stay
pub words_on-with_word-other : (words : List (List ℕ)) (place : Place) (word node : ℕ)
    → node ≢ place.node → words_on (with_word words place word) node ≡ words_on words node
words_on-with_word-other words place word node differs =
    get_or-set_other words place.node node (set (words_on words place.node) place.at word) [] differs

-- another position on the node of the place holds what it held
at-with_word-other : (words : List (List ℕ)) (place : Place) (word at : ℕ) → at ≢ place.at
    → get_or (words_on (with_word words place word) place.node) at 0 ≡ get_or (words_on words place.node) at 0
at-with_word-other words place word at differs =
    let put = set (words_on words place.node) place.at word in
    elim (cases_lt place.node (length words)) [
      | inl within ↦
          ap (λ list. get_or list at 0) (get_or-set_same words place.node put [] within)
          ∙ get_or-set_other (words_on words place.node) place.at at word 0 differs
      | inr past ↦ ap (λ all. get_or (words_on all place.node) at 0) (set_past words place.node put past)
    ]

-- each other place holds what it held
pub word_at-with_word-other : (words : List (List ℕ)) (place : Place) (word : ℕ) (other : Place)
    → other ≢ place → word_at (with_word words place word) other ≡ word_at words other
word_at-with_word-other words place word other differs =
    elim (eqb_tells other.node place.node) [
      | inl same ↦
          rw same.1 (at-with_word-other words place word other.at (λ at. differs (place_ext other place same.1 at)))
      | inr apart ↦
          ap (λ list. get_or list other.at 0) (words_on-with_word-other words place word other.node apart.1)
    ]

-- the word that stands at a place, put there, changes nothing
pub with_word-word_at : (words : List (List ℕ)) (place : Place)
    → with_word words place (word_at words place) ≡ words
with_word-word_at words place =
    ap (set words place.node) (set-get_or (words_on words place.node) place.at 0) ∙ set-get_or words place.node []

-- the shape of the words, the length of each node's list, stays
pub map_length-with_word : (words : List (List ℕ)) (place : Place) (word : ℕ)
    → map length (with_word words place word) ≡ map length words
map_length-with_word words place word =
    let before = words_on words place.node in
    map-set_same length words place.node (set before place.at word) [] (length-set before place.at word)

-- words of one shape have the same places
pub HasPlace-same_shape : (old new : List (List ℕ)) (place : Place)
    → map length new ≡ map length old → HasPlace old place → HasPlace new place
HasPlace-same_shape old new place same has =
    let lengths : length new ≡ length old =
    sym (length-map new length) ∙ ap length same ∙ length-map old length in
    let sizes : length (words_on new place.node) ≡ length (words_on old place.node) =
    sym (ListN.get_or-map length new place.node [])
    ∙ ap (λ list. get_or list place.node 0) same
    ∙ ListN.get_or-map length old place.node [] in
    record { node = omega (arith, has.node, lengths); at = omega (arith, has.at, sizes) }

-- a place that exists is there still once a word is put anywhere
pub HasPlace-with_word : (words : List (List ℕ)) (place : Place) (word : ℕ) (other : Place)
    → HasPlace words other → HasPlace (with_word words place word) other
HasPlace-with_word words place word other =
    HasPlace-same_shape words (with_word words place word) other (map_length-with_word words place word)

-- a word put on a memory node makes no node lost and none live
pub is_lost-with_word : (words : List (List ℕ)) (place : Place) (word node : ℕ)
    → 0 ≢ place.node → is_lost (with_word words place word) node ≡ is_lost words node
is_lost-with_word words place word node differs =
    ap (λ list. not (node == 0) && not (get_or list node 0 == 0)) (words_on-with_word-other words place word 0 differs)

-- a write into one list of a list of lists, which f sees as the words
pub map-set-in : {V : Type 0} (f : V → List ℕ) (lists : List V) (node at word : ℕ) (list stored : V)
    → node < length lists → list ≡ get_or lists node list → f stored ≡ set (f list) at word
    → map f (set lists node stored) ≡ set (map f lists) node (set (get_or (map f lists) node []) at word)
map-set-in f lists node at word list stored within is puts =
    let seen = ap f is ∙ sym (get_or-map f lists node list [] within) in
    map-set f lists node stored ∙ ap (set (map f lists) node) (puts ∙ ap (λ l. set l at word) seen)
