use Rattle.slot_runs.proofs.ExampleLemmas.{IsAllowed-contended, IsSettled-empty_slot, IsView-on_three_nodes}
use Rattle.slot_runs.proofs.laws.two_writers_at_once.Goals as goal

pub returns-clause-view : goal.returns-clause-view
returns-clause-view c = IsView-on_three_nodes

pub returns-clause-settled : goal.returns-clause-settled
returns-clause-settled c = IsSettled-empty_slot

pub returns-clause-allowed : goal.returns-clause-allowed
returns-clause-allowed c = IsAllowed-contended
