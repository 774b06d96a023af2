use Rattle.object_form.proofs.BlockLemmas.{block_of_unit-only, IsInBlock-block_of_unit}
use Rattle.object_form.proofs.laws.units_lie_in_one_block.Goals as goal

pub returns : goal.returns
returns c = λ unit block free. (block_of_unit-only unit block, IsInBlock-block_of_unit unit block free)
