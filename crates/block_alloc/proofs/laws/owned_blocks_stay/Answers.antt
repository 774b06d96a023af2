use Rattle.block_alloc.proofs.BlockWordLemmas.{MayClaim-owner}
use Rattle.block_alloc.proofs.laws.owned_blocks_stay.Goals as goal

pub returns : goal.returns
returns c = MayClaim-owner
