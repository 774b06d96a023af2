use Rattle.std.proofs.Common.{◌+◌, ◌-◌, map, ap, ◌∙◌, arith}
use Rattle.std.specs.List.{range_with_len}
use Rattle.sim_plan.specs.Made.{plan}
use Rattle.sim_run.proofs.PlanLemmas.{plans-more}
use Rattle.sim_run.proofs.works.Work.new.Goals as goal

pub loop-client-preserved : goal.loop-client-preserved
loop-client-preserved c =
    rw c.in_ok-push.ensures.items
    (plans-more c.loop-client.plans.items c.in_ok-plan.field-0 c.args.numbers.now c.loop-client.client (c.loop-client.client + 1 - 1) c.loop-client.auto.client (omega (arith, c.loop-client.auto.client))
    c.loop-client.invariant c.in_ok-plan.ensures)

pub returns-clause-planned : goal.returns-clause-planned
returns-clause-planned c =
    let numbers = c.args.numbers.now in
    record {
      small = c.requires;
      plans = c.loop-client.invariant
          ∙ ap (λ n. map (λ who. plan numbers.seed who numbers.calls) (range_with_len 1 n)) (omega (arith, c.loop-client-test.false, c.loop-client.auto.client, c.loop-client.auto.client-end));
    }
