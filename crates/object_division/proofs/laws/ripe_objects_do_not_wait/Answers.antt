use Rattle.object_division.proofs.SortedLemmas.{blocks_once, renewed_unmarked, ripe_or_waits}
use Rattle.object_division.proofs.laws.ripe_objects_do_not_wait.Goals as goal

pub returns-clause-apart : goal.returns-clause-apart
returns-clause-apart c = ripe_or_waits

pub returns-clause-once : goal.returns-clause-once
returns-clause-once c = blocks_once

pub returns-clause-cleared : goal.returns-clause-cleared
returns-clause-cleared c = renewed_unmarked
