use Rattle.std.proofs.Common.{rules, ap, subst, ◌∙◌, arith}
use Rattle.machine.proofs.ViewLemmas.{IsView-of}
use Rattle.region_view.specs.Placed.{LeavesNoneBare, Viewed}
use Rattle.region_view.specs.Sizes.{Sizes}
use Rattle.node_join.proofs.TargetLemmas.{places-some}
use Rattle.node_join.proofs.copying.copy_of.Goals as goal

pub bounds-deref-0 : goal.bounds-deref-0
bounds-deref-0 c =
    let regions = ap (λ (s : Sizes). s.regions) c.requires.shape in
    let covers = subst (λ (v : Viewed). LeavesNoneBare v.shape v.mask) c.source.view_is c.source.invariant in
    places-some c.args.source.now c.args.region c.args.offset c.deref.result.now (IsView-of c.args.source.now (search rules) covers) (omega (arith, regions, c.requires.region)) (c.deref.ensures.0 ∙ c.word_places.ensures)
