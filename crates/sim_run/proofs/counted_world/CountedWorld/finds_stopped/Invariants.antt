use Rattle.std.proofs.Common.{◌≡◌, ℕ, ◌<◌, false}
use Rattle.sim_meaning.specs.Driver.{awaits_recovery}
use Rattle.sim_run.proofs.counted_world.CountedWorld.finds_stopped.Given as goal

abbrev pub invariant-loop-i : goal.invariant-loop-i
invariant-loop-i l = (other : ℕ) → other < l.i → awaits_recovery l.self.world other ≡ false
