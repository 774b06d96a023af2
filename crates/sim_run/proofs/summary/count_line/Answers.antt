use Rattle.std.proofs.Common.{◌++◌, get_or, refl, sym, ap, ◌∙◌}
use Rattle.std.specs.Prelude.{codes}
use Rattle.std.specs.Fmt.{decimal}
use Rattle.sim_run.proofs.SummaryLemmas.{spaced-more}
use Rattle.sim_run.proofs.summary.count_line.Goals as goal

pub loop-number-preserved : goal.loop-number-preserved
loop-number-preserved c =
    let number = get_or c.args.numbers.now c.loop-number.number-index 0 in
    c.in_ok-push_number.ensures
    ∙ ap (λ text. text ++ decimal number) (c.in_ok-push.ensures.items ∙ ap (λ text. text ++ codes " ") c.loop-number.invariant)
    ∙ sym (spaced-more c.args.numbers.now c.loop-number.number-index number c.args.name.now c.loop-number-test.true refl)
