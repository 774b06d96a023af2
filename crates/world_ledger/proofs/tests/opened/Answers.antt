use Rattle.std.proofs.Common.{ap, length, map, subst, ◌∙◌}
use Rattle.machine_world.proofs.StandingLemmas.{first_world-stands}
use Rattle.region_view.specs.Sizes.{IsWithinLimits}
use Rattle.world_ledger.proofs.tests.opened.Goals as goal

pub returns : goal.returns
returns c =
    let limits = subst IsWithinLimits c.shape.view_is c.shape.invariant in
    ap (map length) (c.of_words.ensures ∙ c.in_ok-first_words.ensures) ∙ (first_world-stands c.args.shape.now limits).words
