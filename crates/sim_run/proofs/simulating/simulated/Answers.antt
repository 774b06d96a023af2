use Rattle.sim_run.proofs.WriteLemmas.{rendered-so}
use Rattle.sim_run.specs.Course.{course_of}
use Rattle.sim_run.proofs.simulating.simulated.Goals as goal

pub returns : goal.returns
returns c =
    rendered-so c.args.numbers.now c.in_ok-work.work.numbers c.pool_of.result (course_of c.in_ok-simulator.simulator) c.in_ok-work.ensures.numbers c.pool_of.ensures c.in_ok-simulator.ensures
