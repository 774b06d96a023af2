use Rattle.object_division.proofs.BlockLemmas.{gained_once, gained_owned}
use Rattle.object_division.proofs.laws.gained_blocks_are_owned.Goals as goal

pub returns-clause-owned : goal.returns-clause-owned
returns-clause-owned c = gained_owned

pub returns-clause-once : goal.returns-clause-once
returns-clause-once c = gained_once
