use Rattle.kv_ops.proofs.KeptLemmas.{turn-kept}
use Rattle.kv_ops.proofs.laws.a_call_is_over_where_it_ended.Goals as goal

pub returns : goal.returns
returns c = λ client answer open'. (turn-kept client answer).idle open'
