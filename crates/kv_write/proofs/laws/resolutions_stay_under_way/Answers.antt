use Rattle.kv_write.proofs.BoundLemmas.{begun-under_way, turn-kept}
use Rattle.kv_write.proofs.laws.resolutions_stay_under_way.Goals as goal

pub returns-clause-begun : goal.returns-clause-begun
returns-clause-begun c = begun-under_way

pub returns-clause-kept : goal.returns-clause-kept
returns-clause-kept c = turn-kept
