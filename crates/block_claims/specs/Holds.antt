-- What holds of each event: who has gained the block owns it on every replica, and is the only one.
use Rattle.std.specs.Prelude.{◌≡◌, ℕ, ◌<◌, ◌⊎◌, List, [], ◌∷◌, length, slice_index}
use Rattle.block_alloc.specs.declared.TheConstants.{CLASSES}
use Rattle.block_alloc.specs.BlockWord.{IsClient}
use Rattle.block_claims.specs.Claims.{Gained, Releasing, owned, primary_of, released}
use Rattle.block_claims.specs.Run.{Event, Step, Install, State, happens}

-- a replica has the primary's word; or a client owns the block on the primary, and the replica still says that it is unused
-- or released with the class
abbrev pub IsAlike : List ℕ → ℕ → Type 0
IsAlike words word =
    (word ≡ primary_of words)
    ⊎ ((client : ℕ) × (class : ℕ) × IsClient client × (class < CLASSES) × (primary_of words ≡ owned client class)
    × ((word ≡ 0) ⊎ (word ≡ released class)))

-- every replica says that the client owns the block
abbrev pub IsOwnedBy : List ℕ → ℕ → ℕ → Type 0
IsOwnedBy words client class = (place : ℕ) → place < length words → slice_index words place ≡ owned client class

-- a client's release of the block goes on
abbrev pub IsReleased : State → Event → ℕ → Type 0
IsReleased state event client =
    (event ≡ Step client) × ((class : ℕ) × (backups : ℕ) × (state.stages client ≡ Releasing class backups))

-- new replicas are installed
abbrev pub IsInstalled : Event → Type 0
IsInstalled event = (replicas : ℕ) × (word : ℕ) × (event ≡ Install replicas word)

-- what holds of an event
pub record Holds (state : State) (event : Event) : Type 0 where
  pub owned_by : (client class : ℕ) → (happens state event).stages client ≡ Gained class
      → IsOwnedBy (happens state event).words client class
  pub one : (client other class of_other : ℕ) → (happens state event).stages client ≡ Gained class
      → (happens state event).stages other ≡ Gained of_other → client ≡ other
  pub alike : (place : ℕ) → place < length (happens state event).words
      → IsAlike (happens state event).words (slice_index (happens state event).words place)
  -- a block that a client owns stays its own until the last verb of its release
  pub stays : (client class : ℕ) → IsClient client → class < CLASSES → primary_of state.words ≡ owned client class
      → (primary_of (happens state event).words ≡ owned client class) ⊎ (IsReleased state event client ⊎ IsInstalled event)

-- it holds of each of the events
abbrev pub HoldsAlong : State → List Event → Type 0
HoldsAlong state [] = Unit {0}
HoldsAlong state (event ∷ events) = Holds state event × HoldsAlong (happens state event) events
