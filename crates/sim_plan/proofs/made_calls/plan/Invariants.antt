use Rattle.std.proofs.Common.{◌≡◌, ◌-◌, ◌++◌}
use Rattle.sim_plan.proofs.PlanLemmas.{calls_from}
use Rattle.sim_plan.proofs.made_calls.plan.Given as goal
use Rattle.sim_plan.specs.Made.{plan}

-- the plan is what was made of it, and then the calls of the words that are left
abbrev pub invariant-words : goal.invariant-words
invariant-words l = plan l.seed l.who l.calls ≡ l.plan.items ++ calls_from (l.calls - l.counter) l.turns
