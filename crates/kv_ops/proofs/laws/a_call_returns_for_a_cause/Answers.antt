use Rattle.kv_ops.proofs.CausedLemmas.{caused, choosing-goes}
use Rattle.kv_ops.proofs.laws.a_call_returns_for_a_cause.Goals as goal

pub returns-clause-results : goal.returns-clause-results
returns-clause-results c = λ sizes number client answer is. (caused sizes number client answer is).results

pub returns-clause-choosing : goal.returns-clause-choosing
returns-clause-choosing c = choosing-goes
