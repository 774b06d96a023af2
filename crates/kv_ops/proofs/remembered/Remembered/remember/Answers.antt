use Rattle.std.proofs.Common.{◌≡◌, ◌≤◌, ◌<◌, arith, length, sym, subst, ◌∙◌}
use Rattle.kv_ops.specs.Places.{AreDistinct}
use Rattle.kv_ops.proofs.PlaceLemmas.{HasNone-remove, HasNone-remove_first, length-value, with_place-add, with_place-full, with_place-renew}
use Rattle.kv_ops.proofs.remembered.Remembered.remember.Goals as goal

pub renew-requires-clause-others : goal.renew-requires-clause-others
renew-requires-clause-others c = HasNone-remove_first c.args.self.now c.in-Some.rank c.args.key.now c.in-Some.ensures.some (subst AreDistinct c.self.view_is c.self.invariant.ordered.distinct)

pub renew-requires-in-None-2-clause-others : goal.renew-requires-in-None-2-clause-others
renew-requires-in-None-2-clause-others c = HasNone-remove c.args.self.now 15 c.args.key.now c.in-None.ensures.none

pub returns-in-Some : goal.returns-in-Some
returns-in-Some c =
    let few : length c.args.self.now ≤ 16 = omega (arith, length-value _ _ _ c.self.invariant.ordered c.self.view_is, c.self.invariant.ordered.few) in
    c.renew.ensures ∙ sym (with_place-renew c.args.self.now c.in-Some.rank c.args.key.now c.args.place few c.in-Some.ensures.some (subst AreDistinct c.self.view_is c.self.invariant.ordered.distinct))

pub returns-in-None : goal.returns-in-None
returns-in-None c =
    let room : length c.args.self.now < 16 = omega (arith, length-value _ _ _ c.self.invariant.ordered c.self.view_is, c.len.ensures.value, c.if-len-lt-MOST_PLACES.true) in
    c.add.ensures ∙ sym (with_place-add c.args.self.now c.args.key.now c.args.place room c.in-None.ensures.none)

pub returns-in-None-2 : goal.returns-in-None-2
returns-in-None-2 c =
    let full : length c.args.self.now ≡ 16 = omega (arith, length-value _ _ _ c.self.invariant.ordered c.self.view_is, c.self.invariant.ordered.few, c.len.ensures.value, c.if-len-lt-MOST_PLACES.false) in
    c.renew-in-None-2.ensures ∙ sym (with_place-full c.args.self.now c.args.key.now c.args.place full c.in-None.ensures.none)
