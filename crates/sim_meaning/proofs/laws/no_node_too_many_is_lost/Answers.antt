use Rattle.sim_meaning.proofs.DrawLemmas.{turn-losses}
use Rattle.sim_meaning.proofs.laws.no_node_too_many_is_lost.Goals as goal

pub returns : goal.returns
returns c = turn-losses
