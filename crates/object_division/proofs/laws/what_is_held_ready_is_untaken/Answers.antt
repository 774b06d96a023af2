use Rattle.object_division.proofs.DividedLemmas.{stocked_after}
use Rattle.object_division.proofs.laws.what_is_held_ready_is_untaken.Goals as goal

pub returns : goal.returns
returns c = stocked_after
