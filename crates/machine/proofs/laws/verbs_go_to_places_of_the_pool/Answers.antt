use Rattle.machine.proofs.ClientTurnLemmas.{next-inside}
use Rattle.machine.proofs.laws.verbs_go_to_places_of_the_pool.Goals as goal

pub returns : goal.returns
returns c = next-inside
