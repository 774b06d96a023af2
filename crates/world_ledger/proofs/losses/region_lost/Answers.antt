use Rattle.std.proofs.Common.{◌+◌, ℕ, Bool, ap, sym, ◌∙◌, arith}
use Rattle.machine_world.specs.Refusals.{keeps_none}
use Rattle.object_form.proofs.ClassLemmas.{find-range}
use Rattle.region_view.specs.Sizes.{Sizes}
use Rattle.world_ledger.proofs.ListLemmas.{find_none}
use Rattle.world_ledger.specs.Seen.{words_seen}
use Rattle.world_ledger.proofs.losses.region_lost.Goals as goal

pub returns-then-keeps_none : goal.returns-then-keeps_none
returns-then-keeps_none c =
    let p : ℕ → Bool = keeps_none (words_seen c.args.shape.now c.args.nodes.now) c.args.lost in
    let count = ap (λ (sizes : Sizes). sizes.regions) c.shape.view_is in
    sym (find-range p 0 (c.args.shape.now.regions + 1) c.loop-region.region (omega arith) (omega (arith, count, c.loop-region-test.true)) (sym c.keeps_none.ensures ∙ c.if-keeps_none.true) (λ k above under. c.loop-region.invariant k under))

pub returns : goal.returns
returns c =
    let p : ℕ → Bool = keeps_none (words_seen c.args.shape.now c.args.nodes.now) c.args.lost in
    let count = ap (λ (sizes : Sizes). sizes.regions) c.shape.view_is in
    sym (find_none p 0 (c.args.shape.now.regions + 1) (λ k above under. c.loop-region.invariant k (omega (arith, under, count, c.loop-region-test.false))))
