use Rattle.std.proofs.Common.{sym, subst, ◌∙◌, ap, rules}
use Rattle.machine.proofs.ViewLemmas.{IsView-of}
use Rattle.region_view.specs.Placed.{LeavesNoneBare, Viewed}
use Rattle.key_test.proofs.IndexLemmas.{slot_primary-is}
use Rattle.key_test.proofs.places.index_primary.Goals as goal

pub returns : goal.returns
returns c =
    let covers = subst (λ (v : Viewed). LeavesNoneBare v.shape v.mask) c.view.view_is c.view.invariant in
    λ slot. slot_primary-is c.args.view.now slot (IsView-of c.args.view.now (search rules) covers)
    ∙ ap (λ node. record { node = node; at = slot }) (sym c.primary.ensures)
