use Rattle.std.proofs.Common.{refl}
use Rattle.map_model.proofs.HeldLemmas.{map_held-insert}
use Rattle.map_model.proofs.held_map.HeldMap.put.Goals as goal

pub returns : goal.returns
returns c = map_held-insert c.args.key c.args.value c.args.self.now.values c.insert.new.self _ _ c.in_ok-insert.ensures.updates refl refl
