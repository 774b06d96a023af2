use Rattle.object_division.proofs.DividedLemmas.{divided_along}
use Rattle.object_division.proofs.laws.objects_are_divided.Goals as goal

pub returns : goal.returns
returns c = divided_along
