use Rattle.sim_meaning.proofs.DrawLemmas.{turn-draws}
use Rattle.sim_meaning.proofs.laws.a_turn_draws_one_word.Goals as goal

pub returns : goal.returns
returns c = turn-draws
