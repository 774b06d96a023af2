use Rattle.region_view.proofs.ControlLemmas.{control_position-apart, control_position-inside}
use Rattle.region_view.proofs.laws.control_words_lie_apart.Goals as goal

pub returns-clause-inside : goal.returns-clause-inside
returns-clause-inside c = control_position-inside

pub returns-clause-apart : goal.returns-clause-apart
returns-clause-apart c = control_position-apart
