use Rattle.machine.proofs.CopyingLemmas.{written_places_of-few, written_places_of-others, written_places_of-shadows}
use Rattle.machine.proofs.master_laws.a_word_is_copied_to_every_other_place.Goals as goal

pub returns-clause-others : goal.returns-clause-others
returns-clause-others c = written_places_of-others

pub returns-clause-shadows : goal.returns-clause-shadows
returns-clause-shadows c = written_places_of-shadows

pub returns-clause-few : goal.returns-clause-few
returns-clause-few c = written_places_of-few
