use Rattle.std.proofs.Common.{◌≡◌, ℕ, ◌%◌, ◌++◌, ◌∷◌, [], true, false, length, sym, ap, ◌∙◌, arith, length-append}
use Rattle.std.proofs.lemmas.List.{append-nil}
use Rattle.arrayvec.specs.ArrayVec.{ArrayVec}
use Rattle.region_view.proofs.PlacedLemmas.{next_replica}
use Rattle.region_view.specs.Sizes.{Sizes}
use Rattle.region_view.proofs.views.replicas.Goals as goal
use Rattle.region_view.proofs.views.replicas.Goals.{then-in_mask, else-in_mask}

pub loop-i-preserved : goal.loop-i-preserved
loop-i-preserved c =
    let view = c.view.inside in
    let first = c.remainder-first.ensures ∙ ap (λ (sizes : Sizes). c.args.region % sizes.nodes) c.shape.view_is in
    let node = c.node_after-node.result in
    elim c.if-in_mask.branch [
      | then-in_mask w ↦
          let grew : c.if-in_mask.nodes.items ≡ c.loop-i.nodes.items ++ node ∷ [] = ap (λ (v : ArrayVec ℕ). v.items) w.nodes-is ∙ w.push.ensures.items in
          let long = ap length grew in
          record {
            made = next_replica view.mask view.shape c.args.region c.loop-i.i node true c.loop-i.nodes.items c.if-in_mask.nodes.items (c.node_after-node.ensures.node c.args.region first) (sym w.if-in_mask.true ∙ c.in_mask.ensures) c.loop-i.invariant.made grew;
            few = omega (arith, length-append c.loop-i.nodes.items (node ∷ []), c.loop-i.invariant.few);
          }
      | else-in_mask w ↦
          let same : c.if-in_mask.nodes.items ≡ c.loop-i.nodes.items = ap (λ (v : ArrayVec ℕ). v.items) w.nodes-is in
          let long = ap length same in
          record {
            made = next_replica view.mask view.shape c.args.region c.loop-i.i node false c.loop-i.nodes.items c.if-in_mask.nodes.items (c.node_after-node.ensures.node c.args.region first) (sym w.if-in_mask.false ∙ c.in_mask.ensures) c.loop-i.invariant.made (same ∙ sym (append-nil c.loop-i.nodes.items));
            few = omega (arith, c.loop-i.invariant.few);
          }
    ]
