use Rattle.verb_history.proofs.LedgerLemmas.{in_order-entered}
use Rattle.verb_history.proofs.laws.the_order_is_that_of_the_ledger.Goals as goal

pub returns : goal.returns
returns c = in_order-entered
