-- What the ends of a recovery stand on: the word that was found, by what was read.
use Rattle.std.specs.Prelude.{◌≡◌, ◌≢◌, ℕ, ◌+◌, ◌*◌, ◌⊎◌, Some, None}
use Rattle.block_alloc.specs.declared.BlockWord.TheVariants.{Owned}
use Rattle.block_alloc.specs.BlockWord.{block_in}
use Rattle.machine.specs.EpochRead.{open_mask}
use Rattle.machine.specs.RecoveryStage.{Recovery, ReadBlock, ReadEpoch, Release, WriteSlot}
use Rattle.machine.specs.SlotWrite.{SlotWrite, judged}
use Rattle.snapshot_rules.specs.declared.rules.Verdict.TheVariants.{Lose}
use Rattle.snapshot_write.specs.Causes.{ReadsPrimary}
use Rattle.verb_words.specs.declared.verbs.Answer.{Answer}
use Rattle.verb_words.specs.declared.verbs.Answer.TheVariants.{Word}

-- the epoch word was read as this one, and opens no mask
abbrev pub IsSealed : Recovery → Answer → ℕ → Type 0
IsSealed recovery answer word = (recovery.stage ≡ ReadEpoch) × (answer ≡ Word word) × (open_mask recovery.shape word ≡ None)

-- the words of the slot's backups name another writer, and the primary was read as the word that is to be replaced, this
abbrev pub IsUnchanged : Recovery → Answer → ℕ → ℕ → Type 0
IsUnchanged recovery answer slot word =
    (write : SlotWrite) × (recovery.stage ≡ WriteSlot write) × (judged write.list write.fresh ≡ Lose) × ReadsPrimary write
    × (answer ≡ Word word) × (word ≡ write.expect) × (slot ≡ write.slot)

-- the word of the block at the position was read, and is not one that the client owns
abbrev pub PassesBlock : Recovery → ℕ → Type 0
PassesBlock recovery found =
    (recovery.stage ≡ ReadBlock) × ((class : ℕ) → block_in found ≢ Some (Owned recovery.client class))

-- the last block of the pool was passed over, or was released on the primary
abbrev pub IsDone : Recovery → Answer → Type 0
IsDone recovery answer =
    (recovery.position + 1 ≡ recovery.shape.regions * recovery.shape.blocks)
    × ((found : ℕ) × (answer ≡ Word found) × (PassesBlock recovery found ⊎ ((class : ℕ) × (recovery.stage ≡ Release class))))
