-- The places that the program remembers as those of the machine.
use Rattle.std.specs.Prelude.{ℕ, ◌≡◌, ◌<◌, ◌≤◌, true, List, [], ◌∷◌, length, map, not, slice_index_or, take}
use Rattle.std.specs.List.{All, AllPass}
use Rattle.arrayvec.specs.ArrayVec.{ArrayVec}
use Rattle.machine.specs.Remembered.{Pair, is_of}
use Rattle.slot_order.specs.Fnv.{fnv1a}

abbrev pub pair_of : ArrayVec ℕ × ℕ → Pair
pair_of pair = (pair.0.items, pair.1)

abbrev pub pairs_of : List (ArrayVec ℕ × ℕ) → List Pair
pairs_of pairs = map pair_of pairs

-- the pairs of these places, one after another
abbrev pub picked : List Pair → List ℕ → List Pair
picked pairs order = map (λ at. slice_index_or pairs at ([], 0)) order

-- the pairs in the order that tells where they are
abbrev pub pairs_in : List (ArrayVec ℕ × ℕ) → List ℕ → List Pair
pairs_in pairs order = picked (pairs_of pairs) order

-- none of the pairs is of the key
abbrev pub HasNone : List Pair → List ℕ → Type 0
HasNone pairs key = AllPass (λ pair. not (is_of key pair)) pairs

-- each pair is the only one of its key
abbrev pub AreDistinct : List Pair → Type 0
AreDistinct [] = Unit {0}
AreDistinct (pair ∷ pairs) = HasNone pairs pair.0 × AreDistinct pairs

-- the pair of this rank is of the key, and none before it is
pub record HasFirstAt (pairs : List Pair) (rank : ℕ) (key : List ℕ) : Type 0 where
  pub within : rank < length pairs
  pub own : is_of key (slice_index_or pairs rank ([], 0)) ≡ true
  pub others : HasNone (take rank pairs) key

-- the hashes of the pairs' keys
abbrev pub hashes_of : List Pair → List ℕ
hashes_of pairs = map (λ pair. fnv1a pair.0) pairs

-- each place in the order is that of a pair, there are as many as pairs, 16 at most, and no two pairs are of one key
pub record IsOrder (pairs : List (ArrayVec ℕ × ℕ)) (order : List ℕ) : Type 0 where
  pub within : All (λ at. at < length pairs) order
  pub each : length order ≡ length pairs
  pub few : length pairs ≤ 16
  pub distinct : AreDistinct (pairs_in pairs order)

-- pairs, the hashes of their keys, and their order
pub record IsHeld (pairs : List (ArrayVec ℕ × ℕ)) (hashes order : List ℕ) : Type 0 where
  pub ordered : IsOrder pairs order
  pub hashed : hashes ≡ hashes_of (pairs_of pairs)
