use Rattle.block_alloc.proofs.BlockWordLemmas.{block_in-word_of, block_in-gives}
use Rattle.block_alloc.proofs.laws.words_give_their_blocks.Goals as goal

pub returns-clause-block : goal.returns-clause-block
returns-clause-block c = block_in-word_of

pub returns-clause-word : goal.returns-clause-word
returns-clause-word c = block_in-gives
