use Rattle.std.proofs.Common.{◌≡◌, ◌≤◌, length, filter, take}
use Rattle.machine.specs.Copying.{is_on_other}
use Rattle.node_join.proofs.copying.others.Given as goal

abbrev pub invariant-loop-place : goal.invariant-loop-place
invariant-loop-place l = record {
  made : l.others.items ≡ filter (is_on_other l.read) (take l.place-index l.place-items);
  few : length l.others.items ≤ l.place-index;
}
