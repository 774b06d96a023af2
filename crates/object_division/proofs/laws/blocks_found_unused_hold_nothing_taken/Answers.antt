use Rattle.object_division.proofs.UntakenBlockLemmas.{spreads_untaken}
use Rattle.object_division.proofs.laws.blocks_found_unused_hold_nothing_taken.Goals as goal

pub returns : goal.returns
returns c = spreads_untaken
