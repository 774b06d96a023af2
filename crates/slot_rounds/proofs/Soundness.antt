-- What stays true of a slot and its writers, whatever happens.
use Rattle.std.proofs.Common.{◌≡◌, ◌≢◌, ℕ, ◌*◌, ◌<◌, ◌≤◌, ◌⊎◌, List, [], length, slice_index}
use Rattle.snapshot_rules.specs.Winner.{times, winner}
use Rattle.slot_rounds.specs.Slot.{Slot}
use Rattle.slot_rounds.specs.Write.{Phase, Gathering, Mending, Checking, Deciding, Waiting, Left, Write, Writer, Writing}
use Rattle.slot_rounds.specs.Run.{State}
use Rattle.slot_rounds.specs.Claims.{IsFull}

-- the word is the first one of a backup, or, once each backup has one, the winner
abbrev pub IsFirstOrWinner : Slot → ℕ → ℕ → Type 0
IsFirstOrWinner slot place word = (word ≡ slice_index slot.firsts place) ⊎ (IsFull slot × (word ≡ winner slot.firsts))

-- of the words alone
pub record IsSoundSlot (slot : Slot) : Type 0 where
  pub some : 0 < length slot.backups
  pub long : length slot.firsts ≡ length slot.backups
  -- a backup has no first word exactly where it holds the deciding word
  pub none : (place : ℕ) → place < length slot.backups → slice_index slot.firsts place ≡ slot.primary → slice_index slot.backups place ≡ slot.primary
  pub untaken : (place : ℕ) → place < length slot.backups → slice_index slot.backups place ≡ slot.primary → slice_index slot.firsts place ≡ slot.primary
  pub each : (place : ℕ) → place < length slot.backups → IsFirstOrWinner slot place (slice_index slot.backups place)

-- the word is the fresh word of a write of this round that is under way
pub record IsOfWrite (primary : ℕ) (writers : ℕ → Writer) (word : ℕ) : Type 0 where
  pub number : ℕ
  pub write : Write
  pub writes : writers number ≡ Writing write
  pub round : write.expected ≡ primary
  pub fresh : write.fresh ≡ word

-- what a write with this fresh word knows, by a listed word, of the backup at a place
pub record IsListed (slot : Slot) (fresh : ℕ) (place : ℕ) (word : ℕ) : Type 0 where
  pub taken : slice_index slot.firsts place ≢ slot.primary
  pub known : IsFirstOrWinner slot place word
  -- the word is there still, unless another write has won
  pub still : (slice_index slot.backups place ≡ word) ⊎ (IsFull slot × (winner slot.firsts ≢ fresh))

abbrev pub AllListed : Slot → ℕ → List ℕ → Type 0
AllListed slot fresh list = (place : ℕ) → place < length list → IsListed slot fresh place (slice_index list place)

-- a winner has mended the backups below this place, and the others hold what is listed
pub record IsMendedTo (slot : Slot) (fresh : ℕ) (list : List ℕ) (place : ℕ) : Type 0 where
  pub long : length list ≡ length slot.backups
  pub full : IsFull slot
  pub wins : winner slot.firsts ≡ fresh
  pub below : (other : ℕ) → other < place → other < length slot.backups → slice_index slot.backups other ≡ fresh
  pub rest : (other : ℕ) → place ≤ other → other < length slot.backups → slice_index slot.backups other ≡ slice_index list other

abbrev pub HasFewWords : Slot → ℕ → List ℕ → Type 0
HasFewWords slot fresh list = 2 * times fresh list ≤ length slot.backups

-- of a write of this round, by its phase
abbrev pub IsSoundNow : Phase → Slot → ℕ → List ℕ → Type 0
IsSoundNow Gathering slot fresh list = (length list < length slot.backups) × AllListed slot fresh list
IsSoundNow (Mending place) slot fresh list = (place < length slot.backups) × IsMendedTo slot fresh list place
IsSoundNow Checking slot fresh list = IsMendedTo slot fresh list 0
IsSoundNow Deciding slot fresh list = IsMendedTo slot fresh list (length slot.backups)
IsSoundNow Waiting slot fresh list = HasFewWords slot fresh list
IsSoundNow Left slot fresh list = list ≡ []

-- of a write whose round has ended, by its phase: it will not win
abbrev pub IsSoundLate : Phase → Slot → List ℕ → Type 0
IsSoundLate Gathering slot list = length list < length slot.backups
IsSoundLate (Mending place) slot list = ⊥
IsSoundLate Checking slot list = Unit {0}
IsSoundLate Deciding slot list = ⊥
IsSoundLate Waiting slot list = Unit {0}
IsSoundLate Left slot list = list ≡ []

-- of a write under way
pub record IsSoundWrite (slot : Slot) (write : Write) : Type 0 where
  pub apart : write.fresh ≢ slot.primary
  pub now : write.expected ≡ slot.primary → IsSoundNow write.phase slot write.fresh write.list
  pub late : write.expected ≢ slot.primary → IsSoundLate write.phase slot write.list
  pub few : write.expected ≢ slot.primary → HasFewWords slot write.fresh write.list

pub record IsSound (state : State) : Type 0 where
  pub slot_sound : IsSoundSlot state.slot
  -- each first word is the fresh word of a write of this round
  pub whose : (place : ℕ) → place < length state.slot.firsts → slice_index state.slot.firsts place ≢ state.slot.primary
      → IsOfWrite state.slot.primary state.writers (slice_index state.slot.firsts place)
  pub each : (number : ℕ) (write : Write) → state.writers number ≡ Writing write → IsSoundWrite state.slot write
  pub apart : (number other : ℕ) (write others : Write) → number ≢ other → state.writers number ≡ Writing write
      → state.writers other ≡ Writing others → write.fresh ≢ others.fresh
  -- no fresh word is expected by any write
  pub unexpected : (number other : ℕ) (write others : Write) → state.writers number ≡ Writing write
      → state.writers other ≡ Writing others → write.fresh ≢ others.expected
