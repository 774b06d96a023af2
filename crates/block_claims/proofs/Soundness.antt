-- What stays true of a block's words and of its claimants, whatever happens.
use Rattle.std.proofs.Common.{◌≡◌, ℕ, ◌+◌, ◌<◌, ◌⊎◌, List, length, slice_index}
use Rattle.block_alloc.specs.declared.TheConstants.{CLASSES}
use Rattle.block_alloc.specs.BlockWord.{IsClient}
use Rattle.block_claims.specs.Claims.{Stage, Out, Claiming, Spreading, Owning, Gained, Releasing, owned, primary_of, released}
use Rattle.block_claims.specs.Holds.{IsAlike, IsOwnedBy}
use Rattle.block_claims.specs.Run.{State}

-- the client and the class are within their limits, and the primary says that the client owns the block for the class
pub record IsOwner (words : List ℕ) (client class : ℕ) : Type 0 where
  pub client_within : IsClient client
  pub class_within : class < CLASSES
  pub primary : primary_of words ≡ owned client class

-- the first backups have this word
abbrev pub HaveWord : List ℕ → ℕ → ℕ → Type 0
HaveWord words count word = (place : ℕ) → place < count → slice_index words place ≡ word

abbrev pub IsSoundStage : List ℕ → ℕ → Stage → Type 0
IsSoundStage words client Out = Unit {0}
IsSoundStage words client (Claiming class word) =
    IsClient client × (class < CLASSES) × ((word ≡ 0) ⊎ (word ≡ released class))
IsSoundStage words client (Spreading class backups) =
    IsOwner words client class × (backups + 1 < length words) × HaveWord words backups (owned client class)
IsSoundStage words client (Owning class) = IsOwner words client class × IsOwnedBy words client class
IsSoundStage words client (Gained class) = IsOwner words client class × IsOwnedBy words client class
IsSoundStage words client (Releasing class backups) =
    IsOwner words client class × (backups < length words) × HaveWord words backups (released class)

pub record IsSoundWords (words : List ℕ) : Type 0 where
  pub some : 0 < length words
  pub alike : (place : ℕ) → place < length words → IsAlike words (slice_index words place)

pub record IsSound (state : State) : Type 0 where
  pub words : IsSoundWords state.words
  pub stages : (client : ℕ) → IsSoundStage state.words client (state.stages client)
