use Rattle.kv_ops.proofs.KeptLemmas.{turn-kept}
use Rattle.kv_ops.proofs.laws.a_verb_keeps_the_call.Goals as goal

pub returns-clause-number : goal.returns-clause-number
returns-clause-number c = λ client answer. (turn-kept client answer).number

pub returns-clause-client : goal.returns-clause-client
returns-clause-client c = λ client answer. (turn-kept client answer).owner

pub returns-clause-shape : goal.returns-clause-shape
returns-clause-shape c = λ client answer. (turn-kept client answer).shape
