use Rattle.machine_world.proofs.ExampleLemmas.{stopped_put-division, stopped_put-history}
use Rattle.machine_world.proofs.laws.a_stopped_put_as_a_run.Goals as goal

pub returns-clause-history : goal.returns-clause-history
returns-clause-history c = stopped_put-history

pub returns-clause-division : goal.returns-clause-division
returns-clause-division c = stopped_put-division
