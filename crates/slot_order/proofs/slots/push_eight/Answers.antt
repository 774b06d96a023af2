use Rattle.std.proofs.Common.{◌≡◌, ◌+◌, length, ap, ◌∙◌, lit<, arith, length-append}
use Rattle.std.proofs.lemmas.Grind.{common_steps}
use Rattle.std.proofs.lemmas.List.FromFn.{length-range_with_len}
use Rattle.std.specs.List.{range_with_len}
use Rattle.slot_order.specs.Slots.{eight_from}
use Rattle.slot_order.proofs.ListLemmas.{range_with_len-push}
use Rattle.slot_order.proofs.slots.push_eight.Goals as goal

pub push-requires : goal.push-requires
push-requires c =
    let pushed = range_with_len c.args.start c.loop-past.past in
    let len : length c.loop-past.slots.items ≡ length c.args.slots.now.items + length pushed =
    ap length c.loop-past.invariant ∙ length-append c.args.slots.now.items pushed in
    (lit< tt, omega (arith, length-range_with_len c.args.start c.loop-past.past))

pub loop-past-preserved : goal.loop-past-preserved
loop-past-preserved c = grind (arith, common_steps, range_with_len-push)

pub returns-clause-items : goal.returns-clause-items
unfolding eight_from
returns-clause-items c = grind (arith, common_steps)
