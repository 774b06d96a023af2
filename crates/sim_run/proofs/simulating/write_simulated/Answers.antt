use Rattle.std.proofs.Common.{subst}
use Rattle.script_run.specs.Written.{Writes}
use Rattle.sim_meaning.specs.Summary.{rendered}
use Rattle.sim_run.proofs.WriteLemmas.{starves}
use Rattle.sim_run.proofs.simulating.write_simulated.Goals as goal

pub returns-in-Ok-clause-written : goal.returns-in-Ok-clause-written
returns-in-Ok-clause-written g c =
    subst (Writes g.K.Sink.held g.K.Sink.faults c.args.sink.now c.write_summary.new.sink c.write_summary.result) c.in-Ok.ensures c.write_summary.ensures.written

pub returns-in-Err-clause-written : goal.returns-in-Err-clause-written
returns-in-Err-clause-written g c = starves (g.K.Sink.held c.args.sink.now) (rendered c.args.numbers.now)
