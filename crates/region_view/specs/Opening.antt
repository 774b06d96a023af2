-- The words that a pool opens with.
use Rattle.std.specs.Prelude.{ℕ, zero, suc, ◌+◌, ◌-◌, ◌*◌, ◌^◌, List, [], ◌∷◌, ◌++◌, replicate}
use Rattle.region_view.specs.Sizes.{Sizes}

-- so many copies of the words, one behind the other
abbrev pub copies : ℕ → List ℕ → List ℕ
copies zero words = []
copies (suc n) words = copies n words ++ words

-- the control node: the epoch word of view 1, not sealed, with all nodes in the mask; else zeros
abbrev pub first_control : Sizes → List ℕ
first_control sizes = (2 ^ 16 + (2 ^ sizes.nodes - 1)) ∷ replicate 1039 0

-- a data region: no block is granted, and in each block's bitmap all objects are in stock
abbrev pub first_region : Sizes → List ℕ
first_region sizes = replicate 64 0 ++ replicate sizes.blocks (2 ^ 64 - 1) ++ replicate (64 - sizes.blocks + 512 * sizes.blocks) 0

-- a memory node: slots and shadows are empty
abbrev pub first_node : Sizes → List ℕ
first_node sizes = replicate (48 * sizes.groups) 0 ++ copies sizes.regions (first_region sizes)

-- the control node's words, and then each memory node's
abbrev pub first_words_of : Sizes → List (List ℕ)
first_words_of sizes = first_control sizes ∷ replicate sizes.nodes (first_node sizes)
