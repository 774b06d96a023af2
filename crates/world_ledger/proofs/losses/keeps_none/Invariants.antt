use Rattle.std.proofs.Common.{◌≡◌, ◌<◌, ℕ, false}
use Rattle.machine_world.specs.Refusals.{stays_live}
use Rattle.region_view.specs.Placed.{placed_node}
use Rattle.world_ledger.specs.Seen.{words_seen}
use Rattle.world_ledger.proofs.losses.keeps_none.Given as goal

abbrev pub invariant-loop-i : goal.invariant-loop-i
invariant-loop-i l = (k : ℕ) → k < l.i → stays_live (words_seen l.shape l.nodes) l.lost (placed_node l.shape l.region k) ≡ false
