use Rattle.slot_rounds.proofs.RoundLemmas.{HoldsAlong-opening}
use Rattle.slot_rounds.proofs.laws.rounds.Goals as goal

pub returns : goal.returns
returns c = HoldsAlong-opening
