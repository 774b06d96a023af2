-- A run of slot writes, seen as the small machine of one slot.
use Rattle.std.proofs.Common.{ℕ, Option, Some, None}
use Rattle.machine.specs.declared.slot_write.Wrote.{Wrote}
use Rattle.machine.specs.declared.slot_write.Wrote.TheVariants as wrote
use Rattle.machine.specs.Places.{backup_count}
use Rattle.machine.specs.SlotWrite.{Phase, Gather, Mend, Check, Final, Wait, SlotWrite}
use Rattle.slot_rounds.specs.Slot.{Slot}
use Rattle.slot_rounds.specs.Write as small
use Rattle.slot_rounds.specs.Write.{Write, Writer, Idle, Writing, Told}
use Rattle.slot_rounds.specs.Run as rounds
use Rattle.slot_runs.specs.Run.{State, Event, Begin, Step, backup_word, deciding}
use Rattle.slot_runs.proofs.FamilyLemmas.{listing}

abbrev pub phase_seen : Phase → small.Phase
phase_seen Gather = small.Gathering
phase_seen (Mend backup) = small.Mending backup
phase_seen Check = small.Checking
phase_seen Final = small.Deciding
phase_seen Wait = small.Waiting

abbrev pub write_seen : SlotWrite → Write
write_seen write = record { expected = write.expect; fresh = write.fresh; list = write.list; phase = phase_seen write.phase }

abbrev pub writer_seen : Option SlotWrite → Writer
writer_seen None = Idle
writer_seen (Some write) = Writing (write_seen write)

-- the small machine has the deciding word where there is no first word yet
abbrev pub first_seen : ℕ → Option ℕ → ℕ
first_seen deciding None = deciding
first_seen deciding (Some first) = first

-- a slot of so many backups, with these words
abbrev pub slot_with : ℕ → ℕ → (ℕ → ℕ) → (ℕ → Option ℕ) → Slot
slot_with deciding count backups firsts =
    record {
      primary = deciding;
      backups = listing backups count;
      firsts = listing (λ backup. first_seen deciding (firsts backup)) count;
    }

abbrev pub slot_seen : State → Slot
slot_seen state = slot_with (deciding state) (backup_count state.view state.slot) (backup_word state) state.firsts

abbrev pub state_seen : State → rounds.State
state_seen state = record { slot = slot_seen state; writers = λ writer. writer_seen (state.writers writer) }

abbrev pub event_seen : Event → rounds.Event
event_seen (Begin writer expect fresh) = rounds.Begin writer expect fresh
event_seen (Step writer) = rounds.Step writer

abbrev pub told_seen : Wrote → Told
told_seen wrote.Going = small.Going
told_seen wrote.Won = small.Won
told_seen (wrote.Changed word) = small.Changed word
told_seen (wrote.Unchanged word) = small.Unchanged
told_seen (wrote.Refused node) = small.Going
