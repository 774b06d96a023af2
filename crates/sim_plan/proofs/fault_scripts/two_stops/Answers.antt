use Rattle.std.proofs.Common.{◌++◌, ◌∙◌, ap}
use Rattle.std.proofs.lemmas.Result.{IfOk-weaker}
use Rattle.std.specs.Prelude.{codes, decimal}
use Rattle.sim_plan.proofs.ScriptLemmas.{numbered_line, wrote_numbered_line}
use Rattle.sim_plan.proofs.fault_scripts.two_stops.Goals as goal

pub returns : goal.returns
returns c =
    let first_words = codes "call 1 put a 1\nstep 1 " in
    let second_words = codes "call 2 put a 2\nstep 2 " in
    let others = codes "stop 1\nstop 2\nrecover 2\nrecover 1\nrecover 2\nrecover 1\nget 3 a\n" in
    let second = numbered_line second_words c.args.other_verbs others in
    let first = wrote_numbered_line c.format.result first_words c.args.verbs (second_words ++ (decimal c.args.other_verbs ++ (codes "\n" ++ others))) c.format.ensures.ok in
    IfOk-weaker c.format.result _ _ (λ text told. told ∙ ap (λ rest. first_words ++ ((decimal c.args.verbs ++ codes "\n") ++ rest)) second) first
