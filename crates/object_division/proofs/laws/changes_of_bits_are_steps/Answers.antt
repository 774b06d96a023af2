use Rattle.object_division.proofs.BitStepLemmas.{bits_seen, others_seen, turn_seen}
use Rattle.object_division.proofs.laws.changes_of_bits_are_steps.Goals as goal

pub returns-clause-turn : goal.returns-clause-turn
returns-clause-turn c = turn_seen

pub returns-clause-own : goal.returns-clause-own
returns-clause-own c = bits_seen

pub returns-clause-others : goal.returns-clause-others
returns-clause-others c = others_seen
