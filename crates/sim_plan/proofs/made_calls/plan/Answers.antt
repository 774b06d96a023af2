use Rattle.std.proofs.Common.{◌≡◌, ◌+◌, ◌-◌, ◌++◌, sym, ap, ◌∙◌, append-nil, arith}
use Rattle.sim_plan.proofs.PlanLemmas.{calls_from, no_calls, one_more_call}
use Rattle.sim_plan.proofs.made_calls.plan.Goals as goal

pub words-preserved : goal.words-preserved
words-preserved c =
    let counted : c.args.calls - c.words.counter ≡ (c.args.calls - (c.words.counter + 1)) + 1 = omega arith in
    let more = one_more_call _ c.words.plan.items _ _ _ _ _ c.words.invariant c.draw.ensures counted in
    rw (c.in_ok-push.ensures.items, c.in_ok-call_of.ensures) more

pub returns : goal.returns
returns c =
    let none : c.args.calls - c.words.counter ≡ 0 = omega arith in
    sym (c.words.invariant ∙ ap (λ count. c.words.plan.items ++ calls_from count c.words.turns) none ∙ ap (λ calls. c.words.plan.items ++ calls) (no_calls c.words.turns) ∙ append-nil c.words.plan.items)
