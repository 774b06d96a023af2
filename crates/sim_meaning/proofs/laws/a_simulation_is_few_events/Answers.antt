use Rattle.sim_meaning.proofs.CountLemmas.{simulated-within, turn-within}
use Rattle.sim_meaning.proofs.RoomLemmas.{most_events-few, turn-counted}
use Rattle.sim_meaning.proofs.laws.a_simulation_is_few_events.Goals as goal

pub returns-clause-turn : goal.returns-clause-turn
returns-clause-turn c = turn-within

pub returns-clause-counted : goal.returns-clause-counted
returns-clause-counted c = turn-counted

pub returns-clause-whole : goal.returns-clause-whole
returns-clause-whole c = simulated-within

pub returns-clause-few : goal.returns-clause-few
returns-clause-few c = most_events-few
