-- The winner of a list of words: the word that stands more than half as often as the list is long,
-- else the least.
use Rattle.std.specs.Prelude.{ℕ, ◌*◌, ◌<◌, min, Bool, ◌==◌, nat_lt, List, [], ◌∷◌, length, fold, find, count_by, Option, unwrap_or}

-- how often a word stands in a list
abbrev pub times : ℕ → List ℕ → ℕ
times word list = count_by (λ other. other == word) list

-- a word stands more than half as often as the list is long
abbrev pub IsMajority : ℕ → List ℕ → Type 0
IsMajority word list = length list < 2 * times word list

-- whether it does
abbrev pub is_majority : ℕ → List ℕ → Bool
is_majority word list = nat_lt (length list) (2 * times word list)

-- the word that does, if there is one
abbrev pub majority_of : List ℕ → Option ℕ
majority_of list = find (λ word. is_majority word list) list

-- the least word of a list
abbrev pub least : List ℕ → ℕ
least [] = 0
least (word ∷ rest) = fold min word rest

-- the winner of a list: the word that is its majority, else its least word
abbrev pub winner : List ℕ → ℕ
winner list = unwrap_or (majority_of list) (least list)
