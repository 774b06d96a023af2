use Rattle.kv_ops.proofs.CausedLemmas.{caused}
use Rattle.kv_ops.proofs.laws.a_call_stops_for_a_cause.Goals as goal

pub returns : goal.returns
returns c = λ sizes number client answer is. (caused sizes number client answer is).enters
