use Rattle.std.proofs.Common.{◌≡◌, ℕ, ◌%◌, Bool, true, get_or, ap, sym, subst, ◌∙◌, rules, arith}
use Rattle.region_view.proofs.FirstLemmas.{first_kept, none_kept}
use Rattle.region_view.specs.Placed.{Viewed, in_mask, placed_node, replicas_of}
use Rattle.region_view.specs.Sizes.{Sizes}
use Rattle.region_view.proofs.views.primary.Goals as goal

pub returns-then-in_mask : goal.returns-then-in_mask
returns-then-in_mask c =
    let view = c.view.inside in
    let f : ℕ → ℕ = placed_node view.shape c.args.region in
    let p : ℕ → Bool = in_mask view.mask in
    let first = c.remainder-first.ensures ∙ ap (λ (sizes : Sizes). c.args.region % sizes.nodes) c.shape.view_is in
    let is = (c.node_after-node.ensures.node c.args.region first) in
    let passes : p (f c.loop-i.i) ≡ true = subst (λ n. p n ≡ true) is (sym c.in_mask.ensures ∙ c.if-in_mask.true) in
    let count = ap (λ (sizes : Sizes). sizes.replicas) c.shape.view_is in
    is
    ∙ sym (first_kept p f 0 view.shape.replicas c.loop-i.i 0 (omega arith) (search rules) (λ k above under. c.loop-i.invariant k under) passes)
    ∙ ap (λ (v : Viewed). get_or (replicas_of v c.args.region) 0 0) c.view.view_is

pub returns : goal.returns
returns c =
    let view = c.view.inside in
    let count = ap (λ (sizes : Sizes). sizes.replicas) c.shape.view_is in
    sym (none_kept (in_mask view.mask) (placed_node view.shape c.args.region) 0 view.shape.replicas 0 (λ k above under. c.loop-i.invariant k (omega (arith, under, count, c.loop-i-test.false))))
    ∙ ap (λ (v : Viewed). get_or (replicas_of v c.args.region) 0 0) c.view.view_is
