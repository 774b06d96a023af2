use Rattle.std.specs.Prelude.{codes}
use Rattle.sim_plan.proofs.ScriptLemmas.{wrote_numbered_line}
use Rattle.sim_plan.proofs.fault_scripts.stop.Goals as goal

pub returns : goal.returns
returns c =
    wrote_numbered_line c.format.result (codes "call 1 put a 1\nstep 1 ") c.args.verbs (codes "stop 1\nput 2 a 2\nrecover 1\ngo 2\nget 2 a\n") c.format.ensures.ok
