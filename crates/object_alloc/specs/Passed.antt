-- How a choosing passes the blocks of the pool over, told by the words that it reads.
use Rattle.std.specs.Prelude.{◌≡◌, ◌≢◌, ℕ, ◌+◌, ◌/◌, ◌%◌, ◌==◌, ◌⊎◌, Bool, true, false, not, ◌&&◌, List, [], ◌∷◌, ◌++◌, Option, Some, None}
use Rattle.block_alloc.specs.declared.BlockWord.{BlockWord}
use Rattle.block_alloc.specs.declared.BlockWord.TheVariants.{Unused, Owned, Released}
use Rattle.block_alloc.specs.BlockWord.{block_in}
use Rattle.machine.specs.Choosing.{turn}
use Rattle.machine.specs.Stock.{Claim, ReadBlock, Stock, is_own}
use Rattle.verb_words.specs.declared.verbs.Answer.{Answer}
use Rattle.verb_words.specs.declared.verbs.Answer.TheVariants.{Word}

-- the stock after these answers
abbrev pub after_all : Stock → List Answer → Stock
after_all stock [] = stock
after_all stock (answer ∷ answers) = after_all (turn stock answer).state answers

-- the client cannot have the block: it has no block word, or another's, or one that is released with another class
abbrev pub is_no_offer : Stock → Option BlockWord → Bool
is_no_offer stock None = true
is_no_offer stock (Some Unused) = false
is_no_offer stock (Some (Released class)) = not (class == stock.class)
is_no_offer stock (Some (Owned client class)) = not ((client == stock.client) && (class == stock.class))

-- a word passes the block at the position over: the client cannot have the block, or another word stood there when it was
-- to be claimed
abbrev pub PassesOver : Stock → ℕ → Type 0
PassesOver stock found =
    ((stock.phase ≡ ReadBlock) × (is_no_offer stock (block_in found) ≡ true))
    ⊎ ((word : ℕ) × (stock.phase ≡ Claim word) × (found ≢ word))

-- the client has gained the block of this number
abbrev pub IsOwnAt : Stock → ℕ → Type 0
IsOwnAt stock number = is_own stock (1 + number / stock.shape.blocks) (number % stock.shape.blocks) ≡ true

-- one of these answers is a word that passes the block of this number over
pub record WasPassed (start : Stock) (answers : List Answer) (number : ℕ) : Type 0 where
  pub before : List Answer
  pub found : ℕ
  pub after : List Answer
  pub split : answers ≡ before ++ Word found ∷ after
  pub here : (after_all start before).position ≡ number
  pub passes : PassesOver (after_all start before) found
