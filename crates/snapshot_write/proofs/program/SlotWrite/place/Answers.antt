use Rattle.snapshot_write.proofs.PlaceLemmas.{held_place-inside}
use Rattle.snapshot_write.proofs.program.SlotWrite.place.Goals as goal

pub returns-clause-inside : goal.returns-clause-inside
returns-clause-inside c = held_place-inside _ c.args.self.now _ _ c.args.replica c.self.invariant c.self.view_is c.deref.ensures.0 c.requires
