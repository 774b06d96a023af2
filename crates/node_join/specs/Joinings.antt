-- A joining of the program as one of the machine.
use Rattle.std.specs.Prelude.{ℕ}
use Rattle.machine.specs.Joining as machine
use Rattle.machine.specs.Joining.{Joining}
use Rattle.node_join.specs.declared.admitting.Phase.{Phase}
use Rattle.node_join.specs.declared.admitting.Phase.TheVariants.{ReadEpoch, Admit}
use Rattle.region_view.specs.Sizes.{Sizes}

abbrev pub phase_of : Phase → machine.Phase
phase_of ReadEpoch = machine.ReadEpoch
phase_of Admit = machine.Admit

abbrev pub joining_at : Sizes → ℕ → Phase → Joining
joining_at sizes node phase = record { shape = sizes; node = node; phase = phase_of phase }
