use Rattle.block_alloc.proofs.BlockWordLemmas.{word_of-injective}
use Rattle.block_alloc.proofs.laws.words_tell_blocks_apart.Goals as goal

pub returns : goal.returns
returns c = word_of-injective
