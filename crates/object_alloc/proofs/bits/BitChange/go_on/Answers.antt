use Rattle.std.proofs.Common.{arith}
use Rattle.object_alloc.proofs.BitLemmas.{held-left}
use Rattle.object_alloc.proofs.bits.BitChange.go_on.Goals as goal

pub overflow_add-self-inside : goal.overflow_add-self-inside
overflow_add-self-inside c = omega (arith, held-left _ _ c.self.invariant, c.len-count.ensures.value, c.len-count.type_inv)
