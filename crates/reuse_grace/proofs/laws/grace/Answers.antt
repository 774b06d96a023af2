use Rattle.reuse_grace.proofs.GraceLemmas.{HoldsAlong-opening}
use Rattle.reuse_grace.proofs.laws.grace.Goals as goal

pub returns : goal.returns
returns c = HoldsAlong-opening
