use Rattle.std.proofs.Common.{refl}
use Rattle.map_model.proofs.HeldLemmas.{map_held-remove}
use Rattle.map_model.proofs.held_map.HeldMap.remove.Goals as goal

pub returns : goal.returns
returns c = map_held-remove c.args.key c.args.self.now.values c.remove.new.self _ c.remove.ensures.updates refl
