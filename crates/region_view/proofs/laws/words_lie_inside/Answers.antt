use Rattle.region_view.proofs.LayoutLemmas.{offset_of-inside, position_of-inside}
use Rattle.region_view.proofs.laws.words_lie_inside.Goals as goal

pub returns-clause-region : goal.returns-clause-region
returns-clause-region c = offset_of-inside

pub returns-clause-node : goal.returns-clause-node
returns-clause-node c = position_of-inside
