use Rattle.std.proofs.Common.{◌≡◌, ◌-◌, map}
use Rattle.std.specs.List.{range_with_len}
use Rattle.std.specs.Global.{Vec}
use Rattle.map_model.specs.declared.calls.Call.{Call}
use Rattle.sim_plan.specs.Made.{plan}
use Rattle.sim_run.proofs.works.Work.new.Given as goal

abbrev pub invariant-loop-client : goal.invariant-loop-client
invariant-loop-client l =
    map (λ (own : Vec Call). own.items) l.plans.items ≡ map (λ client. plan l.numbers.seed client l.numbers.calls) (range_with_len 1 (l.client - 1))
