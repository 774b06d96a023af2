use Rattle.kv_write.proofs.BoundLemmas.{verbs_left-falls}
use Rattle.kv_write.proofs.laws.verbs_are_used_up.Goals as goal

pub returns-clause-falls : goal.returns-clause-falls
returns-clause-falls c = verbs_left-falls
