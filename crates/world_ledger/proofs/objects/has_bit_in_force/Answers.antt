use Rattle.std.proofs.Common.{arith}
use Rattle.world_ledger.proofs.objects.has_bit_in_force.Goals as goal

pub word_of_region-bits-requires-clause-offset : goal.word_of_region-bits-requires-clause-offset
word_of_region-bits-requires-clause-offset c = omega (arith, c.requires.unit.last, c.block_at-block.ensures)
