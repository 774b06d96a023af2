-- A writer's next verb, by the phase of its write, is a step of the small machine.
use Rattle.std.proofs.Common.{◌≡◌, ◌≢◌, ℕ, ◌≤◌, true, List, length, slice_index, Some, refl, sym, ◌∙◌, ap, arith}
use Rattle.machine.specs.declared.slot_write.Wrote.{Wrote}
use Rattle.machine.specs.Places.{backup_count}
use Rattle.machine.specs.SlotWrite.{IsAt, Phase, Gather, Mend, Check, Final, Wait, SlotWrite, next, turn, turn_at}
use Rattle.machine.specs.Turn.{Turn}
use Rattle.slot_rounds.specs.Slot as slots
use Rattle.slot_rounds.specs.Slot.{SwapBackup}
use Rattle.slot_rounds.specs.Write as small
use Rattle.slot_rounds.specs.Write.{Writer, Idle, Writing}
use Rattle.slot_rounds.specs.Run as rounds
use Rattle.slot_runs.specs.Run.{State, answered, backup_word, deciding, put, stepped}
use Rattle.slot_runs.proofs.FamilyLemmas.{at_listing, length-listing, made_of_put}
use Rattle.slot_runs.proofs.Seen.{phase_seen, slot_seen, state_seen, told_seen, write_seen, writer_seen}
use Rattle.slot_runs.proofs.WriteLemmas.{after_seen, left_by, told_seen_at}
use Rattle.verb_words.specs.Applied.{answer_to}
use Rattle.verb_words.specs.declared.verbs.Answer.TheVariants.{Word}
use Rattle.verb_words.specs.Verb.{place_of}
use Rattle.verb_words.specs.Words.{word_at}
use Rattle.slot_runs.proofs.Standing.{HaveApartFirsts, IsGround, own_write}
use Rattle.slot_runs.proofs.VerbLemmas.{IsDue, backup-due, primary-due, slot_by, slot_by-read, slot_by-swap_backup, slot_by-swap_primary}

-- what is asked of a write that takes its next verb
pub record IsReady (state : State) (write : SlotWrite) : Type 0 where
  pub ground : IsGround state
  pub at : IsAt write.phase write.fresh write.list (backup_count state.view state.slot)
  pub short : length write.list ≤ backup_count state.view state.slot
  pub fresh : write.fresh ≢ deciding state
  pub apart : HaveApartFirsts state

pub due-at : (state : State) (expect fresh : ℕ) (list : List ℕ) (phase : Phase) → IsReady state (own_write state expect fresh list phase)
    → IsDue state (next (own_write state expect fresh list phase))
due-at state expect fresh list Gather ready =
    backup-due state (next (own_write state expect fresh list Gather)) (length list) ready.ground ready.at refl
due-at state expect fresh list (Mend backup) ready =
    backup-due state (next (own_write state expect fresh list (Mend backup))) backup ready.ground (omega (arith, ready.at, ready.short)) refl
due-at state expect fresh list Check ready = primary-due state (next (own_write state expect fresh list Check)) ready.ground refl
due-at state expect fresh list Final ready = primary-due state (next (own_write state expect fresh list Final)) ready.ground refl
due-at state expect fresh list Wait ready = primary-due state (next (own_write state expect fresh list Wait)) ready.ground refl

slot-at : (state : State) (expect fresh : ℕ) (list : List ℕ) (phase : Phase) → IsReady state (own_write state expect fresh list phase)
    → slot_by state (next (own_write state expect fresh list phase))
    ≡ slots.apply (slot_seen state) (small.verb_of (write_seen (own_write state expect fresh list phase)))
slot-at state expect fresh list Gather ready =
    slot_by-swap_backup state (length list) expect fresh ready.ground ready.at ready.fresh ready.apart
slot-at state expect fresh list (Mend backup) ready =
    slot_by-swap_backup state backup (slice_index list backup) fresh ready.ground (omega (arith, ready.at, ready.short)) ready.fresh ready.apart
slot-at state expect fresh list Check ready = slot_by-read state ready.ground
slot-at state expect fresh list Final ready = slot_by-swap_primary state expect fresh ready.ground ready.fresh
slot-at state expect fresh list Wait ready = slot_by-read state ready.ground

-- the word that a verb finds
abbrev found_by : State → SlotWrite → ℕ
found_by state write = word_at state.nodes (place_of (next write))

-- it is answered
answer-at : (state : State) (expect fresh : ℕ) (list : List ℕ) (phase : Phase) → IsReady state (own_write state expect fresh list phase)
    → answer_to state.nodes (next (own_write state expect fresh list phase)) true ≡ Word (found_by state (own_write state expect fresh list phase))
answer-at state expect fresh list Gather ready = rw (due-at state expect fresh list Gather ready).live.live refl
answer-at state expect fresh list (Mend backup) ready = rw (due-at state expect fresh list (Mend backup) ready).live.live refl
answer-at state expect fresh list Check ready = rw (due-at state expect fresh list Check ready).live.live refl
answer-at state expect fresh list Final ready = rw (due-at state expect fresh list Final ready).live.live refl
answer-at state expect fresh list Wait ready = rw (due-at state expect fresh list Wait ready).live.live refl

-- as in the small machine
found-at : (state : State) (expect fresh : ℕ) (list : List ℕ) (phase : Phase) → IsReady state (own_write state expect fresh list phase)
    → found_by state (own_write state expect fresh list phase)
    ≡ slots.answer (slot_seen state) (small.verb_of (write_seen (own_write state expect fresh list phase)))
found-at state expect fresh list Gather ready =
    sym (at_listing (backup_word state) (backup_count state.view state.slot) (length list) ready.at)
found-at state expect fresh list (Mend backup) ready =
    sym (at_listing (backup_word state) (backup_count state.view state.slot) backup (omega (arith, ready.at, ready.short)))
found-at state expect fresh list Check ready = refl
found-at state expect fresh list Final ready = refl
found-at state expect fresh list Wait ready = refl

module _ (state : State) (expect fresh : ℕ) (list : List ℕ) (phase : Phase) (ready : IsReady state (own_write state expect fresh list phase)) where
  abbrev write : SlotWrite
  write = own_write state expect fresh list phase

  abbrev answer : ℕ
  answer = slots.answer (slot_seen state) (small.verb_of (write_seen write))

  -- the write gets the answer that the small machine gives
  answered-at : answered state.nodes write ≡ turn_at phase write answer
  answered-at =
      ap (turn write) (answer-at state expect fresh list phase ready)
      ∙ ap (turn_at phase write) (found-at state expect fresh list phase ready)

  -- what is left of it
  left-at : writer_seen (left_by (answered state.nodes write))
      ≡ small.after_at (phase_seen phase) (length (slot_seen state).backups) (write_seen write) answer
  left-at =
      ap (λ t. writer_seen (left_by t)) answered-at
      ∙ (after_seen state.view state.slot expect fresh list phase answer
      ∙ ap (λ n. small.after_at (phase_seen phase) n (write_seen write) answer)
      (sym (length-listing (backup_word state) (backup_count state.view state.slot))))

  pub told-at : told_seen (answered state.nodes write).told ≡ small.told_at (phase_seen phase) (write_seen write) answer
  told-at = ap (λ (t : Turn SlotWrite Wrote). told_seen t.told) answered-at ∙ told_seen_at phase write answer

  pub seen-at : (writer : ℕ) → state_seen (stepped state writer (Some write)) ≡ rounds.stepped (state_seen state) writer (Writing (write_seen write))
  seen-at writer = λ i. record {
    slot = slot-at state expect fresh list phase ready i;
    writers = λ other. writers-at other i;
  }
    where
      writers-at : (other : ℕ)
          → writer_seen (put state.writers writer (left_by (answered state.nodes write)) other)
          ≡ rounds.put (λ w. writer_seen (state.writers w)) writer
          (small.after_at (phase_seen phase) (length (slot_seen state).backups) (write_seen write) answer) other
      writers-at other =
          made_of_put writer_seen state.writers writer (left_by (answered state.nodes write)) other
          ∙ ap (λ x. rounds.put (λ w. writer_seen (state.writers w)) writer x other) left-at
