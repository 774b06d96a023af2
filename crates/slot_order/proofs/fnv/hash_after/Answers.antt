use Rattle.std.proofs.Common.{refl}
use Rattle.slot_order.specs.Fnv.{hash_after}
use Rattle.slot_order.proofs.fnv.hash_after.Goals as goal

pub returns : goal.returns
unfolding hash_after
returns c = refl
