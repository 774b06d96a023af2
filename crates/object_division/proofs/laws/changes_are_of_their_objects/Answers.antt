use Rattle.object_division.proofs.ChangeOfLemmas.{clearings_of, settings_of}
use Rattle.object_division.proofs.laws.changes_are_of_their_objects.Goals as goal

pub returns-clause-clears : goal.returns-clause-clears
returns-clause-clears c = clearings_of

pub returns-clause-sets : goal.returns-clause-sets
returns-clause-sets c = settings_of
