use Rattle.std.proofs.Common.{◌∙◌, ap, length, take}
use Rattle.slot_order.proofs.OrderLemmas.{order_of-different, order_of-below, order_of-begins, order_of-from_steps, length-order_of-one_bucket, length-order_of-one_group, length-order_of-two_groups}
use Rattle.slot_order.proofs.slots.order.Goals as goal

pub returns-clause-slots : goal.returns-clause-slots
returns-clause-slots c =
    c.slots_of_buckets.ensures
    ∙ order_of-from_steps c.args.key.now c.args.groups c.fnv1a-hash.result c.hash_after.result c.main_bucket-first.result c.main_bucket-second.result c.fnv1a-hash.ensures c.hash_after.ensures c.main_bucket-first.ensures.bucket c.main_bucket-second.ensures.bucket

pub returns-clause-different : goal.returns-clause-different
returns-clause-different c = rw (returns-clause-slots c) (order_of-different c.args.key.now c.args.groups)

pub returns-clause-below : goal.returns-clause-below
returns-clause-below c =
    rw (returns-clause-slots c) (order_of-below c.args.key.now c.args.groups c.requires.some)

pub returns-clause-first : goal.returns-clause-first
returns-clause-first c =
    ap (take 8) (returns-clause-slots c) ∙ order_of-begins c.args.key.now c.args.groups

pub returns-clause-one_bucket : goal.returns-clause-one_bucket
returns-clause-one_bucket c same =
    ap length (returns-clause-slots c) ∙ length-order_of-one_bucket c.args.key.now c.args.groups same

pub returns-clause-one_group : goal.returns-clause-one_group
returns-clause-one_group c differ same =
    ap length (returns-clause-slots c) ∙ length-order_of-one_group c.args.key.now c.args.groups differ same

pub returns-clause-two_groups : goal.returns-clause-two_groups
returns-clause-two_groups c differ =
    ap length (returns-clause-slots c) ∙ length-order_of-two_groups c.args.key.now c.args.groups differ
