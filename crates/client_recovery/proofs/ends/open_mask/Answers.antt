use Rattle.std.proofs.Common.{rules, sym}
use Rattle.client_recovery.proofs.HeldLemmas.{bare_opens_none}
use Rattle.client_recovery.proofs.ends.open_mask.Goals as goal

pub returns-in-Some : goal.returns-in-Some
returns-in-Some c =
    sym (bare_opens_none c.args.shape.now c.args.word c.in_ok-epoch.epoch c.in-Some.field-0 (sym c.in_ok-epoch.ensures.value) (search rules) c.in-Some.ensures.within c.in-Some.ensures.bare)
