use Rattle.machine_world.proofs.StandingLemmas.{run-stands}
use Rattle.machine_world.proofs.laws.the_world_stands_well.Goals as goal

pub returns : goal.returns
returns c = run-stands
