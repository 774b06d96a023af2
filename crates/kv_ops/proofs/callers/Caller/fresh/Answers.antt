use Rattle.std.proofs.Common.{sym, ap, subst, ◌∙◌}
use Rattle.race_slot.specs.Slot.{IsSlot}
use Rattle.slot_order.specs.Fnv.{finger_of}
use Rattle.kv_ops.proofs.CallLemmas.{slot_for-is}
use Rattle.kv_ops.proofs.callers.Caller.fresh.Goals as goal

pub pack-requires : goal.pack-requires
pack-requires c =
    let same = c.finger.ensures ∙ ap finger_of c.as_slice.ensures.value in
    subst IsSlot (λ i. record { finger = sym same i; units = sym c.units.ensures i; pointer = c.args.self.now.object })
    (slot_for-is c.args.self.now.shape c.args.self.now.key.items c.args.self.now.class c.args.self.now.object c.requires.of_class.below c.requires.named)
