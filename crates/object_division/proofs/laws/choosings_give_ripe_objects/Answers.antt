use Rattle.object_division.proofs.OwnLemmas.{clearings_good, gifts_good, reserves_ripe}
use Rattle.object_division.proofs.laws.choosings_give_ripe_objects.Goals as goal

pub returns-clause-reserve : goal.returns-clause-reserve
returns-clause-reserve c = reserves_ripe

pub returns-clause-given : goal.returns-clause-given
returns-clause-given c = gifts_good

pub returns-clause-clearing : goal.returns-clause-clearing
returns-clause-clearing c = clearings_good
