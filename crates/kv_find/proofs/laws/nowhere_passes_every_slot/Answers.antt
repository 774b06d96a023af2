use Rattle.kv_find.proofs.PassedLemmas.{nowhere-passed}
use Rattle.kv_find.proofs.laws.nowhere_passes_every_slot.Goals as goal

pub returns : goal.returns
returns c = nowhere-passed
