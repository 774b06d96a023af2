use Rattle.std.proofs.Common.{◌≡◌, ◌+◌, ◌^◌, map}
use Rattle.std.specs.List.{range_with_len}
use Rattle.world_ledger.specs.Divisions.{IsAtMost, object_at, with_objects}
use Rattle.world_ledger.proofs.divisions.count_objects_of.Given as goal

abbrev pub invariant-loop-j : goal.invariant-loop-j
invariant-loop-j l = record {
  counted : l.division ≡ with_objects l.shape l.nodes (map (object_at l.region l.block l.class) (range_with_len 0 l.j)) l.fn.division;
  few : IsAtMost (2 ^ 19 + l.j) l.division;
}
