use Rattle.std.proofs.Common.{◌≡◌, ◌+◌, drop, map, ◌≤◌, length}
use Rattle.map_model.specs.Held.{map_of}
use Rattle.sim_run.specs.Keys.{decided_by, values_left}
use Rattle.sim_run.proofs.keys.count_values.Given as goal

abbrev pub invariant-loop-i : goal.invariant-loop-i
invariant-loop-i l = record {
  decided : map_of l.decided ≡ decided_by (drop l.i (map (λ one. one.now.entry) l.order));
  count : l.count ≡ values_left (drop l.i (map (λ one. one.now.entry) l.order));
  few : l.count + l.i ≤ length l.order;
}
