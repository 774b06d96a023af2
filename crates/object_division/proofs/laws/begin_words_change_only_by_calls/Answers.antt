use Rattle.object_division.proofs.CallLemmas.{begins_stay}
use Rattle.object_division.proofs.laws.begin_words_change_only_by_calls.Goals as goal

pub returns : goal.returns
returns c = begins_stay
