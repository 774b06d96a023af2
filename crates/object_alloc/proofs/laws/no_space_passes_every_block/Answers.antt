use Rattle.object_alloc.proofs.PassedLemmas.{no_space-passed}
use Rattle.object_alloc.proofs.laws.no_space_passes_every_block.Goals as goal

pub returns : goal.returns
returns c = no_space-passed
