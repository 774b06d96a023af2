use Rattle.std.proofs.Common.{map, ap, ◌∙◌}
use Rattle.sim_meaning.specs.Summary.{values_after}
use Rattle.sim_run.proofs.KeysLemmas.{values_after-in_order}
use Rattle.sim_run.proofs.keys.count_keys.Goals as goal

pub returns : goal.returns
returns c =
    c.in_ok-count.ensures
    ∙ ap (λ l. values_after (map (λ one. one.now.entry) l)) c.as_slice.ensures.value
    ∙ values_after-in_order c.args.world.now (λ one. one.now) c.in_ok-order.order.items c.in_ok-order.ensures
