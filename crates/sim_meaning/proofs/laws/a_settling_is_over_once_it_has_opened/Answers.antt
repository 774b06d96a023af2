use Rattle.sim_meaning.proofs.SettlingLemmas.{settles-opened}
use Rattle.sim_meaning.proofs.laws.a_settling_is_over_once_it_has_opened.Goals as goal

pub returns : goal.returns
returns c = settles-opened
