-- A slot write of the program as one of the machine.
use Rattle.std.specs.Prelude.{ℕ, Bool, true, false, List}
use Rattle.machine.specs.SlotWrite as machine
use Rattle.machine.specs.SlotWrite.{SlotWrite}
use Rattle.region_view.specs.Placed.{Viewed}
use Rattle.snapshot_write.specs.declared.program.Phase.{Phase}
use Rattle.snapshot_write.specs.declared.program.Phase.TheVariants.{Gather, Mend, Check, Final, Wait}

abbrev pub phase_of : Phase → machine.Phase
phase_of Gather = machine.Gather
phase_of (Mend backup) = machine.Mend backup
phase_of Check = machine.Check
phase_of Final = machine.Final
phase_of Wait = machine.Wait

abbrev pub write_of : Viewed → ℕ → ℕ → ℕ → List ℕ → Phase → SlotWrite
write_of view slot expect fresh list phase =
    record { view = view; slot = slot; expect = expect; fresh = fresh; list = list; phase = phase_of phase }

-- whether the word is put on the primary next
abbrev pub is_final : machine.Phase → Bool
is_final machine.Final = true
is_final phase = false
