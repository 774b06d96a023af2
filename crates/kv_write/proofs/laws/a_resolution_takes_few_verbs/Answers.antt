use Rattle.kv_write.proofs.BoundLemmas.{few_verbs}
use Rattle.kv_write.proofs.laws.a_resolution_takes_few_verbs.Goals as goal

pub returns : goal.returns
returns c = few_verbs
