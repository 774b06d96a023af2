-- A resolution of the program as one of the machine.
use Rattle.std.specs.Prelude.{ℕ, List, length}
use Rattle.kv_write.specs.declared.resolutions.Phase.{Phase}
use Rattle.kv_write.specs.declared.resolutions.Phase.TheVariants.{AtSlot, AtKey, AtVersion, AtExpected}
use Rattle.machine.specs.Resolution as machine
use Rattle.machine.specs.Resolution.{IsResolution, Resolution}
use Rattle.object_form.specs.Class.{IsKeyLength}
use Rattle.region_view.specs.Placed.{Viewed}

abbrev pub phase_of : Phase → machine.Phase
phase_of AtSlot = machine.AtSlot
phase_of (AtKey test) = machine.AtKey test
phase_of (AtVersion object before) = machine.AtVersion object before
phase_of (AtExpected object version) = machine.AtExpected object version

abbrev pub resolution_at : Viewed → ℕ → ℕ → ℕ → ℕ → List ℕ → Phase → Resolution
resolution_at view slot expect fresh version key phase =
    record { view = view; slot = slot; expect = expect; fresh = fresh; version = version; key = key; phase = phase_of phase }

-- what is true of each resolution
pub record IsHeld (resolution : Resolution) : Type 0 where
  pub state : IsResolution resolution.view resolution
  pub key : IsKeyLength (length resolution.key)
