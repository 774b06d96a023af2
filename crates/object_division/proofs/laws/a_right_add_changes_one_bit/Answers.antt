use Rattle.object_division.proofs.AddLemmas.{has_bit-added}
use Rattle.object_division.proofs.laws.a_right_add_changes_one_bit.Goals as goal

pub returns : goal.returns
returns c = has_bit-added
