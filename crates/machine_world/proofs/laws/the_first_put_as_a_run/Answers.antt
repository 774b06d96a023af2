use Rattle.machine_world.proofs.ExampleLemmas.{first_put-division, first_put-history, first_put-linear, first_put-trace}
use Rattle.machine_world.proofs.laws.the_first_put_as_a_run.Goals as goal

pub returns-clause-trace : goal.returns-clause-trace
returns-clause-trace c = first_put-trace

pub returns-clause-history : goal.returns-clause-history
returns-clause-history c = first_put-history

pub returns-clause-linear : goal.returns-clause-linear
returns-clause-linear c = first_put-linear

pub returns-clause-division : goal.returns-clause-division
returns-clause-division c = first_put-division
