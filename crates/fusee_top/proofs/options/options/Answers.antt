use Rattle.std.proofs.Common.{◌∙◌}
use Rattle.fusee_top.proofs.OptionLemmas.{options_app-more}
use Rattle.fusee_top.proofs.options.options.Goals as goal

pub loop-name-preserved : goal.loop-name-preserved
loop-name-preserved c =
    c.in_ok-command.ensures.shape c.option.ensures.local
    ∙ options_app-more c.args.names.now c.loop-name.name-index _ _ _ c.loop-name-test.true c.loop-name.invariant c.option.ensures.rule
