use Rattle.kv_find.proofs.StateLemmas.{held_slot-inside}
use Rattle.kv_find.proofs.search.Find.place_to_read.Goals as goal

pub returns-in-AtSlot-clause-inside : goal.returns-in-AtSlot-clause-inside
returns-in-AtSlot-clause-inside c =
    held_slot-inside _ c.args.self.now c.self.inside.finger c.self.inside.primary c.slot.result c.self.invariant c.self.view_is c.slot.ensures
