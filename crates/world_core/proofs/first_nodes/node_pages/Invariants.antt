use Rattle.std.proofs.Common.{◌≡◌, ◌-◌, ◌*◌, ◌++◌, replicate}
use Rattle.region_view.specs.Opening.{copies, first_region}
use Rattle.world_core.proofs.first_nodes.node_pages.Given as goal

abbrev pub invariant-loop-region : goal.invariant-loop-region
invariant-loop-region l =
    l.words ≡ replicate l.slots 0 ++ copies l.region (first_region l.shape) ++ replicate ((l.shape.regions - l.region) * l.size) 0
