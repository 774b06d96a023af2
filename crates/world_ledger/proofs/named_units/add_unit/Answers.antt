use Rattle.std.proofs.Common.{◌≡◌, ℕ, ◌*◌, ◌/◌, ◌%◌, ◌^◌, ◌==◌, ◌||◌, slice_set, subst, sym, arith}
use Rattle.std.specs.Prelude.{bit_or, slice_index}
use Rattle.world_ledger.proofs.NamedUnitsLemmas.{has_unit-added}
use Rattle.world_ledger.specs.NamedUnits.{has_unit}
use Rattle.world_ledger.proofs.named_units.add_unit.Goals as goal

pub returns : goal.returns
returns c other unit =
    let units = c.args.units.now in
    let P : ℕ → Type 0 = λ place. has_unit (slice_set units (place / 64) (bit_or (slice_index units (place / 64)) (1 * 2 ^ (place % 64) % 2 ^ 64))) other
    ≡ (has_unit units other || (c.args.pointer == other)) in
    subst P (sym c.unit_place-place.ensures.place)
    (has_unit-added c.args.shape.now units c.args.pointer other c.unit_place-place.ensures.few c.requires unit (omega (arith, c.unit_place-place.ensures, c.told-units)))
