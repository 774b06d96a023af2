use Rattle.object_form.proofs.BlockLemmas.{object_of_unit-holds, object_of_unit-only}
use Rattle.object_form.proofs.laws.units_lie_in_one_object.Goals as goal

pub returns-clause-lies : goal.returns-clause-lies
returns-clause-lies c = object_of_unit-holds

pub returns-clause-only : goal.returns-clause-only
returns-clause-only c = object_of_unit-only
