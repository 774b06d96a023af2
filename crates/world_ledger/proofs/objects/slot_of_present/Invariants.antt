use Rattle.std.proofs.Common.{◌≡◌, ◌<◌, ℕ, false}
use Rattle.machine_world.specs.Readings.{deciding_word, names}
use Rattle.world_ledger.proofs.objects.slot_of_present.Given as goal

abbrev pub invariant-loop-slot : goal.invariant-loop-slot
invariant-loop-slot l = (k : ℕ) → k < l.slot → names l.shape l.pointer (deciding_word l.shape l.nodes k) ≡ false
