use Rattle.object_division.proofs.ClassLemmas.{granted_kept, open_apart, open_before, taken_granted}
use Rattle.object_division.proofs.laws.granted_blocks_keep_their_class.Goals as goal

pub returns-clause-kept : goal.returns-clause-kept
returns-clause-kept c = granted_kept

pub returns-clause-before : goal.returns-clause-before
returns-clause-before c = open_before

pub returns-clause-taken : goal.returns-clause-taken
returns-clause-taken c = taken_granted

pub returns-clause-bits : goal.returns-clause-bits
returns-clause-bits c = open_apart
