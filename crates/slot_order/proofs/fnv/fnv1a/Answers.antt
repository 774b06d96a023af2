use Rattle.std.proofs.Common.{sym, arith}
use Rattle.std.proofs.lemmas.Grind.{common_steps}
use Rattle.slot_order.specs.Fnv.{fnv1a}
use Rattle.slot_order.proofs.FnvLemmas.{fnv1a_after-push, fnv1a_after-nil}
use Rattle.slot_order.proofs.fnv.fnv1a.Goals as goal

pub loop-byte-init : goal.loop-byte-init
loop-byte-init c = sym (fnv1a_after-nil 14695981039346656037)

pub loop-byte-preserved : goal.loop-byte-preserved
loop-byte-preserved c = grind (arith, common_steps, fnv1a_after-push)

pub returns : goal.returns
unfolding fnv1a
returns c = grind (arith, common_steps)
