use Rattle.sim_meaning.proofs.RunLemmas.{simulated-run}
use Rattle.sim_meaning.proofs.laws.a_simulation_is_a_run.Goals as goal

pub returns : goal.returns
returns c = simulated-run
