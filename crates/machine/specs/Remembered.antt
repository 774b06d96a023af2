-- The places that a client remembers: pairs of a key and a place in its order, the newest first, at most 16.
use Rattle.std.specs.Prelude.{ℕ, Bool, not, List, ◌∷◌, take, filter, find, option_map, unwrap_or, bytes_eq}

abbrev pub Pair : Type 0
Pair = List ℕ × ℕ

abbrev pub is_of : List ℕ → Pair → Bool
is_of key pair = bytes_eq pair.0 key

-- the pairs once a place is remembered: an older pair of the key goes, and so does a seventeenth
abbrev pub with_place : List Pair → List ℕ → ℕ → List Pair
with_place pairs key place = take 16 ((key, place) ∷ filter (λ pair. not (is_of key pair)) pairs)

-- the place at which a search for the key begins: the one that is remembered, else the first of the order
abbrev pub place_for : List Pair → List ℕ → ℕ
place_for pairs key = unwrap_or (option_map (λ pair. pair.1) (find (is_of key) pairs)) 0
