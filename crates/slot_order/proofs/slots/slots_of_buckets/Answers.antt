use Rattle.std.proofs.Common.{sym}
use Rattle.slot_order.proofs.SlotLemmas.{bucket_slots-same, bucket_slots-one_group, bucket_slots-two_groups}
use Rattle.slot_order.proofs.slots.slots_of_buckets.Goals as goal

pub returns-then-first-second : goal.returns-then-first-second
returns-then-first-second c =
    rw (c.push_eight-2.ensures.items, c.push_eight.ensures.items, c.new-slots.ensures, c.main_start.ensures.start, c.overflow_start.ensures.start)
    (sym (bucket_slots-same c.args.first c.args.second c.if-first-second.true))

pub returns-then-first-second-2 : goal.returns-then-first-second-2
returns-then-first-second-2 c =
    rw (c.push_eight-3.ensures.items, c.push_eight-2.ensures.items, c.push_eight.ensures.items, c.new-slots.ensures, c.main_start.ensures.start, c.overflow_start.ensures.start, c.main_start-2.ensures.start)
    (sym (bucket_slots-one_group c.args.first c.args.second c.if-first-second.false c.if-first-second-2.true))

pub returns : goal.returns
returns c =
    rw (c.push_eight-4.ensures.items, c.push_eight-3.ensures.items, c.push_eight-2.ensures.items, c.push_eight.ensures.items, c.new-slots.ensures, c.main_start.ensures.start, c.overflow_start.ensures.start, c.main_start-2.ensures.start, c.overflow_start-2.ensures.start)
    (sym (bucket_slots-two_groups c.args.first c.args.second c.if-first-second-2.false))
