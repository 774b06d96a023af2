use Rattle.object_division.proofs.NewBlockLemmas.{claimed_new}
use Rattle.object_division.proofs.laws.clients_claim_new_blocks.Goals as goal

pub returns : goal.returns
returns c = claimed_new
