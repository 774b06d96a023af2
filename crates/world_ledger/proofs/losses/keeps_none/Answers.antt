use Rattle.std.proofs.Common.{◌≡◌, ℕ, Bool, true, not, ap, sym, ◌∙◌, arith}
use Rattle.machine_world.specs.Refusals.{stays_live}
use Rattle.region_view.specs.Placed.{placed_node}
use Rattle.region_view.specs.Sizes.{Sizes}
use Rattle.world_ledger.proofs.ListLemmas.{any_passes, none_passes}
use Rattle.world_ledger.specs.Seen.{words_seen}
use Rattle.world_ledger.proofs.losses.keeps_none.Goals as goal

pub returns-then-stays_live : goal.returns-then-stays_live
returns-then-stays_live c =
    let f : ℕ → ℕ = placed_node c.args.shape.now c.args.region in
    let p : ℕ → Bool = stays_live (words_seen c.args.shape.now c.args.nodes.now) c.args.lost in
    let passes : p (f c.loop-i.i) ≡ true = ap p (sym c.placed_node.ensures.node) ∙ sym c.stays_live.ensures ∙ c.if-stays_live.true in
    let count = ap (λ (sizes : Sizes). sizes.replicas) c.shape.view_is in
    sym (ap not (any_passes p f c.args.shape.now.replicas c.loop-i.i (omega (arith, count, c.loop-i-test.true)) passes))

pub returns : goal.returns
returns c =
    let f : ℕ → ℕ = placed_node c.args.shape.now c.args.region in
    let p : ℕ → Bool = stays_live (words_seen c.args.shape.now c.args.nodes.now) c.args.lost in
    let count = ap (λ (sizes : Sizes). sizes.replicas) c.shape.view_is in
    sym (ap not (none_passes p f 0 c.args.shape.now.replicas (λ k above under. c.loop-i.invariant k (omega (arith, under, count, c.loop-i-test.false)))))
