use Rattle.machine_world.proofs.ExampleLemmas.{lost_primary-history}
use Rattle.machine_world.proofs.laws.a_lost_primary_as_a_run.Goals as goal

pub returns : goal.returns
returns c = lost_primary-history
