use Rattle.block_claims.proofs.ClaimLemmas.{HoldsAlong-opening}
use Rattle.block_claims.proofs.laws.blocks_have_one_owner.Goals as goal

pub returns : goal.returns
returns c = HoldsAlong-opening
