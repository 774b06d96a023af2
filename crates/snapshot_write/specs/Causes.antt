-- What the answers of a slot write stand on.
use Rattle.std.specs.Prelude.{◌≡◌}
use Rattle.machine.specs.Places.{slot_primary}
use Rattle.machine.specs.SlotWrite.{SlotWrite, judged, next}
use Rattle.snapshot_rules.specs.declared.rules.Verdict.TheVariants.{Lose}
use Rattle.snapshot_write.specs.States.{IsFull}
use Rattle.verb_words.specs.declared.verbs.Verb.TheVariants.{Read, Swap}

-- the verb that is due reads the primary
abbrev pub ReadsPrimary : SlotWrite → Type 0
ReadsPrimary write = next write ≡ Read (slot_primary write.view write.slot)

-- the verb that is due is the final swap: it puts the fresh word on the primary
abbrev pub IsFinalSwap : SlotWrite → Type 0
IsFinalSwap write = next write ≡ Swap (slot_primary write.view write.slot) write.expect write.fresh

-- each backup has answered, and the list of their words names another writer
abbrev pub HasLost : SlotWrite → Type 0
HasLost write = IsFull write × (judged write.list write.fresh ≡ Lose)
