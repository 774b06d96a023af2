-- The block and its claimants, and what happens to it.
use Rattle.std.specs.Prelude.{ℕ, ◌+◌, ◌-◌, ◌==◌, nat_lt, if◌then◌else◌, List, [], ◌∷◌, length, replicate, slice_set}
use Rattle.block_claims.specs.Claims.{Stage, Out, Claiming, Spreading, Owning, Gained, Releasing, owned, primary_of, released, released_from, spreads_from, stage_for}

pub record State : Type 0 where
  pub words : List ℕ
  pub stages : ℕ → Stage

-- every replica says that the block is unused
abbrev pub opening : ℕ → State
opening replicas = record { words = replicate replicas 0; stages = λ client. Out }

pub data Event : Type 0 where
  -- a client that chooses an object of a class reads the block's word on the primary
  Look : (client class : ℕ) → Event
  -- the next verb of a client's claim, or of its release
  Step : (client : ℕ) → Event
  -- a claim or a release is broken off
  Leave : (client : ℕ) → Event
  -- the release of a client's block begins
  Release : (client class : ℕ) → Event
  -- a backup gets a word; so many new replicas get one
  Copy : (place word : ℕ) → Event
  Install : (replicas word : ℕ) → Event

abbrev pub put : (ℕ → Stage) → ℕ → Stage → ℕ → Stage
put stages client stage other = if client == other then stage else stages other

abbrev pub with_stage : State → ℕ → Stage → State
with_stage state client stage = record { words = state.words; stages = put state.stages client stage }

-- a replica gets a word, and the client is at this stage then
abbrev pub written : State → ℕ → ℕ → ℕ → Stage → State
written state place word client stage =
    record { words = slice_set state.words place word; stages = put state.stages client stage }

abbrev pub last_of : State → ℕ
last_of state = length state.words - 1

abbrev pub stepped : State → ℕ → Stage → State
stepped state client Out = state
stepped state client (Claiming class word) =
    if primary_of state.words == word
    then written state (last_of state) (owned client class) client (spreads_from (length state.words) class 0)
    else with_stage state client Out
stepped state client (Spreading class backups) =
    written state backups (owned client class) client (spreads_from (length state.words) class (backups + 1))
stepped state client (Owning class) = with_stage state client (Gained class)
stepped state client (Gained class) = state
stepped state client (Releasing class backups) =
    if nat_lt (backups + 1) (length state.words)
    then written state backups (released class) client (Releasing class (backups + 1))
    else written state (last_of state) (released_from client class (primary_of state.words)) client Out

abbrev pub broken_off : Stage → Stage
broken_off Out = Out
broken_off (Claiming class word) = Out
broken_off (Spreading class backups) = Out
broken_off (Owning class) = Out
broken_off (Gained class) = Gained class
broken_off (Releasing class backups) = Out

abbrev pub happens : State → Event → State
happens state (Look client class) =
    with_stage state client (stage_for (length state.words) client class (primary_of state.words))
happens state (Step client) = stepped state client (state.stages client)
happens state (Leave client) = with_stage state client (broken_off (state.stages client))
happens state (Release client class) = with_stage state client (Releasing class 0)
happens state (Copy place word) = record { words = slice_set state.words place word; stages = state.stages }
happens state (Install replicas word) = record { words = replicate replicas word; stages = state.stages }

-- the state after these events
abbrev pub run : State → List Event → State
run state [] = state
run state (event ∷ events) = run (happens state event) events
