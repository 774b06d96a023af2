use Rattle.lease_core.proofs.PastLemmas.{answers-told}
use Rattle.lease_core.proofs.laws.answers_are_told_by_the_lines_before.Goals as goal

pub returns : goal.returns
returns c = answers-told
