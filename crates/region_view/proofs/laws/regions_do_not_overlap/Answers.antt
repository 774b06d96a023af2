use Rattle.region_view.proofs.LayoutLemmas.{regions_apart}
use Rattle.region_view.proofs.laws.regions_do_not_overlap.Goals as goal

pub returns : goal.returns
returns c = regions_apart
