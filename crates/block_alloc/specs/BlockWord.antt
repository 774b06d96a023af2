-- The word of a block: whether a client owns the block, and which objects stand in it.
use Rattle.std.specs.Prelude.{◌≡◌, ℕ, ◌+◌, ◌-◌, ◌*◌, ◌/◌, ◌%◌, ◌^◌, ◌<◌, ◌≤◌, ◌⊎◌, ◌==◌, nat_lt, nat_le, if◌then◌else◌, Option, Some, None}
use Rattle.block_alloc.specs.declared.TheConstants.{CLASSES}
use Rattle.block_alloc.specs.declared.BlockWord.{BlockWord}
use Rattle.block_alloc.specs.declared.BlockWord.TheVariants.{Unused, Owned, Released}

-- a number of a client
pub record IsClient (client : ℕ) : Type 0 where
  pub least : 1 ≤ client
  pub most : client ≤ 64

-- the fields of a block are within their limits
abbrev pub IsBlock : BlockWord → Type 0
IsBlock Unused = Unit {0}
IsBlock (Owned client class) = IsClient client × (class < CLASSES)
IsBlock (Released class) = class < CLASSES

-- its word: the state in bits 56 to 63, the client in bits 8 to 15, the class in bits 0 to 7
abbrev pub word_of : BlockWord → ℕ
word_of Unused = 0
word_of (Owned client class) = 1 * 2 ^ 56 + client * 2 ^ 8 + class
word_of (Released class) = 2 * 2 ^ 56 + class

-- the block that has a word, if there is one
unfoldable pub block_in : ℕ → Option BlockWord
block_in word =
    if word == 0
    then Some Unused
    else if nat_le CLASSES (word % 2 ^ 8)
    then None
    else if word / 2 ^ 8 == 2 * 2 ^ 48
    then Some (Released (word % 2 ^ 8))
    else if nat_le (word / 2 ^ 8) (2 ^ 48)
    then None
    else if nat_lt (2 ^ 48 + 64) (word / 2 ^ 8)
    then None
    else Some (Owned (word / 2 ^ 8 - 2 ^ 48) (word % 2 ^ 8))

-- the words that a client may replace by its own, to own the block for a class
abbrev pub MayClaim : ℕ → ℕ → ℕ → Type 0
MayClaim word client class =
    (word ≡ word_of Unused)
    ⊎ ((word ≡ word_of (Released class)) ⊎ (word ≡ word_of (Owned client class)))

-- it is the word of a block that a client owns, for a class
pub record IsOwned (word client class : ℕ) : Type 0 where
  pub client_within : IsClient client
  pub class_within : class < CLASSES
  pub has_word : word ≡ word_of (Owned client class)
