-- A test of a key of the program as one of the machine.
use Rattle.std.specs.Prelude.{ℕ, List}
use Rattle.key_test.specs.declared.program.Phase.{Phase}
use Rattle.key_test.specs.declared.program.Phase.TheVariants.{Length, Part}
use Rattle.machine.specs.KeyTest as machine
use Rattle.machine.specs.KeyTest.{KeyTest}
use Rattle.region_view.specs.Placed.{Viewed}

abbrev pub phase_of : Phase → machine.Phase
phase_of Length = machine.Length
phase_of (Part word kind value_len) = machine.Part word kind value_len

abbrev pub test_of : Viewed → List ℕ → ℕ → ℕ → Phase → KeyTest
test_of view key pointer class phase =
    record { view = view; key = key; object = record { pointer = pointer; class = class }; phase = phase_of phase }
