use Rattle.machine.proofs.WalkBackLemmas.{turn-walking}
use Rattle.machine.proofs.master_laws.a_walk_back_tells_won_or_beaten.Goals as goal

pub returns-clause-goes_on : goal.returns-clause-goes_on
returns-clause-goes_on c resolution answer is = (turn-walking resolution answer is).phase

pub returns-clause-tells : goal.returns-clause-tells
returns-clause-tells c resolution answer is = (turn-walking resolution answer is).told
