-- The word of a block on its replicas, and how far a client has come with the block.
use Rattle.std.specs.Prelude.{ℕ, ◌+◌, ◌-◌, ◌==◌, nat_lt, if◌then◌else◌, List, length, slice_index}
use Rattle.block_alloc.specs.declared.BlockWord.TheVariants.{Owned, Released}
use Rattle.block_alloc.specs.BlockWord.{word_of}

-- the words on the replicas, in the order in which they are written: the backups' and then the primary's
abbrev pub primary_of : List ℕ → ℕ
primary_of words = slice_index words (length words - 1)

abbrev pub owned : ℕ → ℕ → ℕ
owned client class = word_of (Owned client class)

abbrev pub released : ℕ → ℕ
released class = word_of (Released class)

pub data Stage : Type 0 where
  -- the client has nothing to do with the block
  Out : Stage
  -- it has read this word on the primary, and swaps it to its own
  Claiming : (class word : ℕ) → Stage
  -- its word stands on the primary, and on so many backups
  Spreading : (class backups : ℕ) → Stage
  -- on every replica
  Owning : (class : ℕ) → Stage
  -- it has gained the block
  Gained : (class : ℕ) → Stage
  -- the block is released for it: so many backups have the new word
  Releasing : (class backups : ℕ) → Stage

-- a client whose word stands on the primary writes it to the backups from this one on, if there are more
abbrev pub spreads_from : ℕ → ℕ → ℕ → Stage
spreads_from replicas class backup = if nat_lt (backup + 1) replicas then Spreading class backup else Owning class

-- what a client does that chooses an object of a class and has read this word: it claims a block that is unused, or released
-- with the class, and takes over one that it owns
abbrev pub stage_for : ℕ → ℕ → ℕ → ℕ → Stage
stage_for replicas client class word =
    if word == 0 then Claiming class word
    else (if word == released class then Claiming class word
    else (if word == owned client class then spreads_from replicas class 0 else Out))

-- a release swaps the primary's word only where it is the client's
abbrev pub released_from : ℕ → ℕ → ℕ → ℕ
released_from client class found = if found == owned client class then released class else found
