use Rattle.std.proofs.Common.{◌≡◌, ◌+◌, ◌*◌, map}
use Rattle.std.specs.List.{flat_map, range_with_len}
use Rattle.machine_world.specs.Readings.{objects_in}
use Rattle.world_ledger.specs.Divisions.{IsAtMost, block_at, with_objects}
use Rattle.world_ledger.specs.Seen.{words_seen}
use Rattle.world_ledger.proofs.divisions.count_all_objects.Given as goal

abbrev pub invariant-loop-position : goal.invariant-loop-position
invariant-loop-position l = record {
  counted : l.division ≡ with_objects l.shape l.nodes (flat_map (objects_in (words_seen l.shape l.nodes)) (map (block_at l.shape) (range_with_len 0 l.position))) l.fn.division;
  few : IsAtMost (4032 + 64 * l.position) l.division;
}
