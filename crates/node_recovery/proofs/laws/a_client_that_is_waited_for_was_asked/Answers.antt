use Rattle.node_recovery.proofs.AskedLemmas.{begun-asked}
use Rattle.node_recovery.proofs.laws.a_client_that_is_waited_for_was_asked.Goals as goal

pub returns : goal.returns
returns c = begun-asked
