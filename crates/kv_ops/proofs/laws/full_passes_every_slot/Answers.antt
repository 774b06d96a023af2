use Rattle.kv_ops.proofs.PassedLemmas.{full-passed}
use Rattle.kv_ops.proofs.laws.full_passes_every_slot.Goals as goal

pub returns : goal.returns
returns c = full-passed
