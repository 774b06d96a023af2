use Rattle.division_grace.proofs.TakeLemmas.{grace_holds}
use Rattle.division_grace.proofs.laws.objects_are_taken_anew_after_grace.Goals as goal

pub returns : goal.returns
returns c = grace_holds
