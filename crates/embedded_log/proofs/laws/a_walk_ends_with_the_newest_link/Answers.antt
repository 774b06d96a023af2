use Rattle.embedded_log.proofs.WalkLemmas.{linked-end, unlinked-end}
use Rattle.embedded_log.proofs.laws.a_walk_ends_with_the_newest_link.Goals as goal

pub returns-clause-linked : goal.returns-clause-linked
returns-clause-linked c = linked-end

pub returns-clause-unlinked : goal.returns-clause-unlinked
returns-clause-unlinked c = unlinked-end
