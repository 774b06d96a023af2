use Rattle.object_bits.proofs.BitLemmas.{HoldsAlong-opening}
use Rattle.object_bits.proofs.laws.bits_are_changed_the_right_way.Goals as goal

pub returns : goal.returns
returns c = HoldsAlong-opening
