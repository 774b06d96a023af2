use Rattle.machine_world.proofs.EventLemmas.{works-clients, works-stopped, works-trace, works-words}
use Rattle.machine_world.proofs.laws.the_masters_verb_stands_apart.Goals as goal

pub returns-clause-words : goal.returns-clause-words
returns-clause-words c = works-words

pub returns-clause-clients : goal.returns-clause-clients
returns-clause-clients c = works-clients

pub returns-clause-trace : goal.returns-clause-trace
returns-clause-trace c = works-trace

pub returns-clause-stopped : goal.returns-clause-stopped
returns-clause-stopped c = works-stopped
