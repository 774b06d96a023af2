use Rattle.std.proofs.Common.{◌≡◌, take}
use Rattle.slot_order.specs.Fnv.{fnv1a_after}
use Rattle.slot_order.proofs.fnv.fnv1a.Given as goal

abbrev pub invariant-loop-byte : goal.invariant-loop-byte
invariant-loop-byte l = l.hash ≡ fnv1a_after 14695981039346656037 (take l.byte-index l.bytes)
