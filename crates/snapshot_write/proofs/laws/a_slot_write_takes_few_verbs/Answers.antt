use Rattle.snapshot_write.proofs.BoundLemmas.{few_verbs}
use Rattle.snapshot_write.proofs.laws.a_slot_write_takes_few_verbs.Goals as goal

pub returns : goal.returns
returns c = few_verbs
