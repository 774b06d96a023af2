use Rattle.race_slot.proofs.SlotLemmas.{or_fields}
use Rattle.race_slot.proofs.pack.Goals as goal

pub returns : goal.returns
returns c =
    rw (c.from.ensures, c.from-2.ensures, c.from-3.ensures) (or_fields c.args.slot.finger c.args.slot.units c.args.slot.pointer c.requires.finger c.requires.units_below c.requires.pointer)
