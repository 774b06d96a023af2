use Rattle.std.proofs.Common.{◌≡◌, ◌<◌, ℕ, false}
use Rattle.machine_world.specs.Refusals.{keeps_none}
use Rattle.world_ledger.specs.Seen.{words_seen}
use Rattle.world_ledger.proofs.losses.region_lost.Given as goal

abbrev pub invariant-loop-region : goal.invariant-loop-region
invariant-loop-region l = (k : ℕ) → k < l.region → keeps_none (words_seen l.shape l.nodes) l.lost k ≡ false
