use Rattle.std.proofs.Common.{◌+◌, ◌-◌, ◌%◌, ap, sym, ◌∙◌, arith}
use Rattle.std.proofs.Math.Nat.{mod-add-mod, mod-eq-sub-mod, mod-eq_of_lt}
use Rattle.region_view.specs.Sizes.{Sizes}
use Rattle.region_view.proofs.views.node_after.Goals as goal

pub returns-else-next-nodes-clause-node : goal.returns-else-next-nodes-clause-node
returns-else-next-nodes-clause-node c region is =
    let nodes = c.shape.inside.nodes in
    let first = c.args.first in
    let i = c.args.i in
    let same = ap (λ (sizes : Sizes). sizes.nodes) c.shape.view_is in
    let limits = c.shape.invariant in
    let count = ap (λ (sizes : Sizes). sizes.replicas) c.shape.view_is in
    let over = mod-eq-sub-mod {n = first + i} {m = nodes} (omega (arith, c.if-next-nodes.false)) in
    let small = mod-eq_of_lt {n = first + i - nodes} {m = nodes} (omega (arith, c.requires.first, c.requires.i, same, count, limits.placed)) in
    let turned = mod-add-mod region nodes i in
    let begins = ap (λ m. (m + i) % nodes) (is ∙ ap (λ m. region % m) (sym same)) in
    ap (λ m. m + 1) (sym small ∙ sym over ∙ begins ∙ turned) ∙ ap (λ m. (region + i) % m + 1) same
