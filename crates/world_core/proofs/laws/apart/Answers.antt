use Rattle.machine_world.specs.Runs.{run}
use Rattle.world_core.proofs.ApartLemmas.{client-apart, master-apart}
use Rattle.world_core.proofs.laws.apart.Goals as goal

pub returns-clause-client : goal.returns-clause-client
returns-clause-client c sizes events late client limits none = client-apart late (run sizes events) client none

pub returns-clause-master : goal.returns-clause-master
returns-clause-master c sizes events limits none = master-apart (run sizes events) none
