use Rattle.std.proofs.Common.{◌≡◌, ◌∷◌, replicate}
use Rattle.region_view.specs.Opening.{first_control, first_node}
use Rattle.world_core.proofs.first_nodes.nodes_in_pages.Given as goal

abbrev pub invariant-loop : goal.invariant-loop
invariant-loop l = l.lists.items ≡ first_control l.shape ∷ replicate l.counter (first_node l.shape)
