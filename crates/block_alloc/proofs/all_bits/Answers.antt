use Rattle.block_alloc.proofs.BlockWordLemmas.{shift_within, shifted_bits}
use Rattle.block_alloc.proofs.all_bits.Goals as goal

pub overflow_shr-result-2 : goal.overflow_shr-result-2
overflow_shr-result-2 c = shift_within c.args.class c.requires

pub returns : goal.returns
returns c = shifted_bits c.args.class c.requires
