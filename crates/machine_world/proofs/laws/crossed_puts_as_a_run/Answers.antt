use Rattle.machine_world.proofs.ExampleLemmas.{crossed_puts-history}
use Rattle.machine_world.proofs.laws.crossed_puts_as_a_run.Goals as goal

pub returns : goal.returns
returns c = crossed_puts-history
