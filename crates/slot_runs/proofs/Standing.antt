-- What stays true in a run of slot writes.
use Rattle.std.proofs.Common.{◌≡◌, ◌≢◌, ℕ, ◌*◌, ◌<◌, ◌≤◌, List, length, Some, ap₂, subst, arith}
use Rattle.machine.specs.EpochRead.{IsView}
use Rattle.machine.specs.Places.{backup_count}
use Rattle.machine.specs.SlotWrite.{IsAt, IsSlotWrite, Phase, SlotWrite}
use Rattle.slot_rounds.proofs.Soundness.{IsSound}
use Rattle.slot_runs.specs.Run.{State, deciding}
use Rattle.slot_runs.specs.Allowed.{HasSlot}
use Rattle.slot_runs.proofs.Seen.{state_seen}
use Rattle.slot_runs.proofs.WriteLemmas.{written}

-- the slot of a view on a memory that has it
pub record IsGround (state : State) : Type 0 where
  pub is_view : IsView state.view
  pub below : state.slot < 24 * state.view.shape.groups
  pub has : HasSlot state.view state.slot state.nodes

-- a writer that began is not before its round, and expects the deciding word as long as its round goes on
pub record HasBegun (state : State) (writer : ℕ) (write : SlotWrite) : Type 0 where
  pub past : state.began writer ≤ state.round
  pub now : state.began writer ≡ state.round → write.expect ≡ deciding state
  pub ended : state.began writer < state.round → write.expect ≢ deciding state

-- a write is of this slot under this view
pub record IsOwn (state : State) (write : SlotWrite) : Type 0 where
  pub is : IsSlotWrite state.view write
  pub slot : write.slot ≡ state.slot

-- each first word is another than the deciding one
abbrev pub HaveApartFirsts : State → Type 0
HaveApartFirsts state = (backup word : ℕ) → state.firsts backup ≡ Some word → word ≢ deciding state

pub record IsGood (state : State) : Type 0 where
  pub ground : IsGround state
  pub own : (writer : ℕ) (write : SlotWrite) → state.writers writer ≡ Some write → IsOwn state write
  pub begun : (writer : ℕ) (write : SlotWrite) → state.writers writer ≡ Some write → HasBegun state writer write
  pub apart : HaveApartFirsts state
  pub sound : IsSound (state_seen state)

-- ---- a write by its fields

-- a write of the state's view and slot
abbrev pub own_write : State → ℕ → ℕ → List ℕ → Phase → SlotWrite
own_write state expect fresh list phase = written state.view state.slot expect fresh list phase

pub own-written : (state : State) (write : SlotWrite) → IsOwn state write
    → write ≡ own_write state write.expect write.fresh write.list write.phase
own-written state write own =
    ap₂ (λ v s. written v s write.expect write.fresh write.list write.phase) own.is.held own.slot

-- what holds of the phase, in the terms of the state
pub at_phase : (state : State) (write : SlotWrite) → IsOwn state write
    → IsAt write.phase write.fresh write.list (backup_count state.view state.slot)
at_phase state write own =
    let count : backup_count write.view write.slot ≡ backup_count state.view state.slot = ap₂ backup_count own.is.held own.slot in
    subst (IsAt write.phase write.fresh write.list) count own.is.phase

pub short_list : (state : State) (write : SlotWrite) → IsOwn state write → length write.list ≤ backup_count state.view state.slot
short_list state write own =
    let count : backup_count write.view write.slot ≡ backup_count state.view state.slot = ap₂ backup_count own.is.held own.slot in
    omega (arith, own.is.list, count)
