-- What is asked of those who look, of those who release, and of those who copy.
use Rattle.std.specs.Prelude.{◌≡◌, ℕ, ◌+◌, ◌<◌, List, [], ◌∷◌, length, slice_index}
use Rattle.block_alloc.specs.declared.TheConstants.{CLASSES}
use Rattle.block_alloc.specs.BlockWord.{IsClient}
use Rattle.block_claims.specs.Claims.{Stage, Out, Claiming, Spreading, Owning, Gained, Releasing, owned, primary_of}
use Rattle.block_claims.specs.Run.{Event, Look, Step, Leave, Release, Copy, Install, State, happens}

-- who has gained the block, or for whom it is released, does not look at it
abbrev pub MayLook : Stage → Type 0
MayLook (Gained class) = ⊥
MayLook (Releasing class backups) = ⊥
MayLook other = Unit {0}

-- nobody is in the middle of a claim or of a release
abbrev pub IsLeft : Stage → Type 0
IsLeft Out = Unit {0}
IsLeft (Claiming class word) = ⊥
IsLeft (Spreading class backups) = ⊥
IsLeft (Owning class) = ⊥
IsLeft (Gained class) = Unit {0}
IsLeft (Releasing class backups) = ⊥

abbrev pub AllLeft : State → Type 0
AllLeft state = (client : ℕ) → IsLeft (state.stages client)

-- some replica has this word
abbrev pub IsHeld : List ℕ → ℕ → Type 0
IsHeld words word = (place : ℕ) × (place < length words) × (slice_index words place ≡ word)

abbrev pub MayHappen : State → Event → Type 0
MayHappen state (Look client class) = IsClient client × (class < CLASSES) × MayLook (state.stages client)
MayHappen state (Step client) = Unit {0}
MayHappen state (Leave client) = Unit {0}
MayHappen state (Release client class) =
    IsClient client × (class < CLASSES) × (primary_of state.words ≡ owned client class)
MayHappen state (Copy place word) = (place + 1 < length state.words) × IsHeld state.words word × AllLeft state
MayHappen state (Install replicas word) = (0 < replicas) × IsHeld state.words word × AllLeft state

-- each of the events may happen when it does
abbrev pub IsAllowed : State → List Event → Type 0
IsAllowed state [] = Unit {0}
IsAllowed state (event ∷ events) = MayHappen state event × IsAllowed (happens state event) events
