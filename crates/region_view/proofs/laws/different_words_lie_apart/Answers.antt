use Rattle.region_view.proofs.LayoutLemmas.{position_of-apart}
use Rattle.region_view.proofs.laws.different_words_lie_apart.Goals as goal

pub returns : goal.returns
returns c = position_of-apart
