use Rattle.std.specs.Prelude.{codes}
use Rattle.sim_plan.proofs.ScriptLemmas.{wrote_numbered_line}
use Rattle.sim_plan.proofs.fault_scripts.loss_while_copying.Goals as goal

pub returns : goal.returns
returns c =
    wrote_numbered_line c.format.result (codes "put 1 a 1\nlose 1\ntask settle\nwork ") c.args.verbs (codes "lose 2\nsettle\nget 1 a\n") c.format.ensures.ok
