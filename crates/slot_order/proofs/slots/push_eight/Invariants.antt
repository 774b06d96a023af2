use Rattle.std.proofs.Common.{◌≡◌, ◌++◌}
use Rattle.std.specs.List.{range_with_len}
use Rattle.slot_order.proofs.slots.push_eight.Given as goal

abbrev pub invariant-loop-past : goal.invariant-loop-past
invariant-loop-past l = l.slots.items ≡ l.initial.slots.items ++ range_with_len l.start l.past
