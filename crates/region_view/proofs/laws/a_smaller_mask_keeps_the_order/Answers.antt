use Rattle.region_view.specs.Placed.{in_mask, placed_nodes}
use Rattle.region_view.proofs.PlacedLemmas.{filter_twice}
use Rattle.region_view.proofs.laws.a_smaller_mask_keeps_the_order.Goals as goal

pub returns : goal.returns
returns c = λ view smaller region stronger. filter_twice (in_mask smaller) (in_mask view.mask) (placed_nodes view.shape region) stronger
