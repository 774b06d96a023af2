use Rattle.std.proofs.Common.{◌≡◌, map, take}
use Rattle.world_core.specs.Openings.{has_stock}
use Rattle.world_core.proofs.openings.stock_of.Given as goal

abbrev pub invariant-loop-actor : goal.invariant-loop-actor
invariant-loop-actor l = l.stock.items ≡ map (has_stock l.shape l.nodes l.settled) (take l.actor-index l.clients)
