use Rattle.std.proofs.Common.{◌≡◌, ℕ}
use Rattle.std.specs.List.{list_any, range_with_len}
use Rattle.machine_world.specs.Readings.{deciding_word, names}
use Rattle.world_ledger.specs.NamedUnits.{has_unit}
use Rattle.world_ledger.specs.Seen.{IsUnit}
use Rattle.world_ledger.proofs.named_units.add_named_units.Given as goal

abbrev pub invariant-loop-slot : goal.invariant-loop-slot
invariant-loop-slot l = (pointer : ℕ) → IsUnit l.shape pointer
    → has_unit l.units pointer ≡ list_any (λ slot. names l.shape pointer (deciding_word l.shape l.nodes slot)) (range_with_len 0 l.slot)
