use Rattle.std.specs.Prelude.{codes}
use Rattle.sim_plan.proofs.ScriptLemmas.{wrote_numbered_line}
use Rattle.sim_plan.proofs.fault_scripts.loss.Goals as goal

pub returns : goal.returns
returns c =
    wrote_numbered_line c.format.result (codes "call 1 put a 1\nstep 1 ") c.args.verbs (codes "lose 1\ngo 1\nsettle\ngo 1\nsettle\ngo 1\nget 2 a\n") c.format.ensures.ok
