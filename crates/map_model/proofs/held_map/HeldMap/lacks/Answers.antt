use Rattle.std.proofs.Common.{refl}
use Rattle.map_model.proofs.HeldLemmas.{is_none-get}
use Rattle.map_model.proofs.held_map.HeldMap.lacks.Goals as goal

pub returns : goal.returns
returns c = is_none-get c.get.result c.is_none.result c.args.self.now.values c.args.key.now c.args.key.now c.is_none.ensures c.get.ensures.value refl
