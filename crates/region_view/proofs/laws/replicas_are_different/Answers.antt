use Rattle.region_view.proofs.PlacedLemmas.{replicas_of-different}
use Rattle.region_view.proofs.laws.replicas_are_different.Goals as goal

pub returns : goal.returns
returns c = replicas_of-different
