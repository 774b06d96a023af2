use Rattle.std.proofs.Common.{◌<◌, [], List, get_or, length, arith, sym, ap, ◌∙◌}
use Rattle.kv_ops.proofs.PlaceLemmas.{get_or-pairs_in, length-value, place_for-first, place_for-none}
use Rattle.machine.specs.Remembered.{Pair}
use Rattle.kv_ops.proofs.remembered.Remembered.place_for.Goals as goal

pub returns-in-Some : goal.returns-in-Some
returns-in-Some c =
    let pairs = c.self.inside.pairs.items in
    let order = c.self.inside.order.items in
    let rank = c.in-Some.rank in
    let first = c.in-Some.ensures.some in
    let within : rank < length order = omega (arith, first.within, length-value _ _ _ c.self.invariant.ordered c.self.view_is, c.self.invariant.ordered.each) in
    (λ i. (get_or (c.deref.ensures.0 i) (get_or (c.deref-in-Some.ensures.0 i) rank 0) c.index-deref-deref.result).1)
    ∙ ap (λ (pair : Pair). pair.1) (sym (get_or-pairs_in pairs order rank c.index-deref-deref.result c.self.invariant.ordered within))
    ∙ ap (λ (l : List Pair). (get_or l rank ([], 0)).1) c.self.view_is
    ∙ sym (place_for-first c.args.self.now rank c.args.key.now first)

pub returns-in-None : goal.returns-in-None
returns-in-None c = sym (place_for-none c.args.self.now c.args.key.now c.in-None.ensures.none)
