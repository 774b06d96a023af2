use Rattle.machine_world.proofs.StandingLemmas.{verb_of-place, verb_of_task-place}
use Rattle.machine_world.proofs.laws.verbs_find_their_words.Goals as goal

pub returns-clause-clients : goal.returns-clause-clients
returns-clause-clients c = verb_of-place

pub returns-clause-master : goal.returns-clause-master
returns-clause-master c = verb_of_task-place
