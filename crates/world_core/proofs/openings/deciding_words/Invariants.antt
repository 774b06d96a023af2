use Rattle.std.proofs.Common.{◌≡◌, map}
use Rattle.std.specs.List.{range_with_len}
use Rattle.machine_world.specs.Readings.{deciding_word}
use Rattle.world_core.proofs.openings.deciding_words.Given as goal

abbrev pub invariant-loop-slot : goal.invariant-loop-slot
invariant-loop-slot l = l.words.items ≡ map (deciding_word l.shape l.nodes) (range_with_len 0 l.slot)
