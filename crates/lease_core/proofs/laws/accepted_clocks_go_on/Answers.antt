use Rattle.lease_core.proofs.EarlyLemmas.{go_on}
use Rattle.lease_core.proofs.laws.accepted_clocks_go_on.Goals as goal

pub returns : goal.returns
returns c = go_on
