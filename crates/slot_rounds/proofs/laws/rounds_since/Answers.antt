use Rattle.slot_rounds.proofs.SinceLemmas.{HoldsAlong-since}
use Rattle.slot_rounds.proofs.laws.rounds_since.Goals as goal

pub returns : goal.returns
returns c = HoldsAlong-since
