use Rattle.machine.proofs.ClientTurnLemmas.{next-inside}
use Rattle.machine.proofs.SparedLemmas.{next-spares}
use Rattle.kv_ops.proofs.laws.a_verb_stays_within_the_clients_words.Goals as goal

pub returns-clause-inside : goal.returns-clause-inside
returns-clause-inside c = next-inside

pub returns-clause-spares : goal.returns-clause-spares
returns-clause-spares c = next-spares
