use Rattle.machine_world.proofs.EventLemmas.{happens-lengths}
use Rattle.machine_world.proofs.laws.nodes_keep_their_sizes.Goals as goal

pub returns : goal.returns
returns c = happens-lengths
