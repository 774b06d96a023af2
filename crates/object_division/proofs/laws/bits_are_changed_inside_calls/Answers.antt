use Rattle.object_division.proofs.CallLemmas.{clearers_inside, setters_inside}
use Rattle.object_division.proofs.laws.bits_are_changed_inside_calls.Goals as goal

pub returns-clause-clears : goal.returns-clause-clears
returns-clause-clears c = clearers_inside

pub returns-clause-sets : goal.returns-clause-sets
returns-clause-sets c = setters_inside
