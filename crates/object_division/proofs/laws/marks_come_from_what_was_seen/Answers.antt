use Rattle.object_division.proofs.MarkLemmas.{begins-marks, taken-marks, turn_seen}
use Rattle.object_division.proofs.laws.marks_come_from_what_was_seen.Goals as goal

pub returns-clause-turn : goal.returns-clause-turn
returns-clause-turn c = λ stock found at. turn_seen stock stock.phase found at

pub returns-clause-begins : goal.returns-clause-begins
returns-clause-begins c = begins-marks

pub returns-clause-taken : goal.returns-clause-taken
returns-clause-taken c = taken-marks
