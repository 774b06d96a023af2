use Rattle.std.proofs.Common.{refl}
use Rattle.machine_world.proofs.EventLemmas.{acts-others, acts-own, acts-words}
use Rattle.machine_world.proofs.laws.a_clients_verb_stands_apart.Goals as goal

pub returns-clause-words : goal.returns-clause-words
returns-clause-words c = acts-words

pub returns-clause-others : goal.returns-clause-others
returns-clause-others c = acts-others

pub returns-clause-own : goal.returns-clause-own
returns-clause-own c = acts-own

pub returns-clause-trace : goal.returns-clause-trace
returns-clause-trace c late world client = refl

pub returns-clause-stopped : goal.returns-clause-stopped
returns-clause-stopped c late world client = refl
