use Rattle.verb_history.proofs.LedgerLemmas.{history-listed}
use Rattle.verb_history.proofs.laws.the_list_is_the_history.Goals as goal

pub returns : goal.returns
returns c = history-listed
