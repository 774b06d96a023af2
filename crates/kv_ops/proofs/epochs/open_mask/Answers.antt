use Rattle.std.proofs.Common.{sym, subst, rules}
use Rattle.kv_ops.proofs.ViewLemmas.{opens_mask}
use Rattle.region_view.specs.Placed.{LeavesNoneBare}
use Rattle.region_view.specs.Sizes.{Sizes}
use Rattle.kv_ops.proofs.epochs.open_mask.Goals as goal

pub returns-in-Some : goal.returns-in-Some
returns-in-Some c =
    sym (opens_mask c.args.shape.now c.args.word c.in_ok-epoch.epoch (search rules) (search rules) (search rules)
    (subst (λ (s : Sizes). LeavesNoneBare s c.in_ok-epoch.epoch.mask) c.shape.view_is c.in-Some.ensures.view.1))
