use Rattle.std.proofs.Common.{◌≡◌, ◌+◌, ◌≤◌, ◌++◌, length, take}
use Rattle.machine.specs.Copying.{other_places}
use Rattle.node_join.proofs.copying.copy_of.Given as goal

abbrev pub invariant-loop-place : goal.invariant-loop-place
invariant-loop-place l = record {
  made : l.to.items ≡ other_places l.fresh l.from.0 l.region l.offset ++ take l.place-index l.place-items;
  few : length l.to.items ≤ 5 + l.place-index;
  more : length l.place-items ≤ 5;
}
