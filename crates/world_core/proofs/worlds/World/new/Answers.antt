use Rattle.std.proofs.Common.{ap, map, subst, ◌∙◌}
use Rattle.region_view.specs.Sizes.{IsWithinLimits}
use Rattle.verb_history.specs.Moments.{moment_of}
use Rattle.world_core.proofs.ReachedLemmas.{opened-run}
use Rattle.world_core.proofs.worlds.World.new.Goals as goal

pub invariant_of-result : goal.invariant_of-result
invariant_of-result c =
    opened-run c.args.shape c.in_ok-first_nodes.field-0 c.in_ok-with_capacity.field-0.items c.new.result c.new-2.result c.new-3.result c.new-4.result (map moment_of c.new-5.result.items) c.in_ok-new.field-0.ledger
    (subst IsWithinLimits c.shape.view_is c.shape.invariant) c.in_ok-first_nodes.ensures c.in_ok-with_capacity.ensures.items c.new.ensures c.new-2.ensures c.new-3.ensures c.new-4.ensures
    (ap (map moment_of) c.new-5.ensures.items) c.in_ok-new.ensures
