use Rattle.std.proofs.Common.{◌+◌, ◌-◌, ◌^◌, ◌∷◌, replicate, ap, ◌∙◌, refl}
use Rattle.region_view.specs.Sizes.{Sizes}
use Rattle.world_core.proofs.FirstNodesLemmas.{control-put}
use Rattle.world_core.proofs.first_nodes.control_pages.Goals as goal

pub returns : goal.returns
returns c =
    control-put c.shape.inside.nodes 1040 1039 _ _ c.shape.invariant.nodes.1 refl c.in_ok-words.ensures c.set.ensures
    ∙ ap (λ (s : Sizes). (2 ^ 16 + (2 ^ s.nodes - 1)) ∷ replicate 1039 0) c.shape.view_is
