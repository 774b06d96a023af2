use Rattle.std.proofs.Common.{◌≡◌, ℕ, Bool, true, ap, sym, subst, ◌∙◌, rules, arith}
use Rattle.region_view.specs.Placed.{in_mask, placed_node}
use Rattle.region_view.specs.Sizes.{Sizes}
use Rattle.region_view.proofs.FirstLemmas.{first_kept, none_kept}
use Rattle.world_ledger.proofs.readings.first_in_mask.Goals as goal

pub returns-then-in_mask-clause-first : goal.returns-then-in_mask-clause-first
returns-then-in_mask-clause-first c =
    let f : ℕ → ℕ = placed_node c.args.shape.now c.args.region in
    let p : ℕ → Bool = in_mask c.args.mask in
    let is = c.placed_node-node.ensures.node in
    let passes : p (f c.loop-i.i) ≡ true = subst (λ n. p n ≡ true) is (sym c.in_mask.ensures ∙ c.if-in_mask.true) in
    is ∙ sym (first_kept p f 0 c.args.shape.now.replicas c.loop-i.i (f 0) (omega arith) (search rules) (λ k above under. c.loop-i.invariant k under) passes)

pub returns-clause-first : goal.returns-clause-first
returns-clause-first c =
    let f : ℕ → ℕ = placed_node c.args.shape.now c.args.region in
    let count = ap (λ (sizes : Sizes). sizes.replicas) c.shape.view_is in
    c.placed_node.ensures.node
    ∙ sym (none_kept (in_mask c.args.mask) f 0 c.args.shape.now.replicas (f 0) (λ k above under. c.loop-i.invariant k (omega (arith, under, count, c.loop-i-test.false))))
