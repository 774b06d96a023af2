use Rattle.std.proofs.Common.{◌≡◌, map}
use Rattle.std.specs.List.{range_with_len}
use Rattle.machine_world.specs.World.{first_ledger}
use Rattle.world_ledger.specs.Divisions.{IsAtMost, block_at, no_division, with_blocks}
use Rattle.world_ledger.specs.Seen.{world_seen}
use Rattle.world_ledger.proofs.divisions.blocks_counted.Given as goal

abbrev pub invariant-loop-position : goal.invariant-loop-position
invariant-loop-position l = record {
  counted : l.division ≡ with_blocks (world_seen l.shape l.nodes l.stopped l.recovered (first_ledger l.shape)) (map (block_at l.shape) (range_with_len 0 l.position)) no_division;
  few : IsAtMost l.position l.division;
}
