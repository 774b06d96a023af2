use Rattle.machine.proofs.ClientTurnLemmas.{first_client-is, invoked-is, turn-is}
use Rattle.machine.proofs.laws.clients_stand_well.Goals as goal

pub returns-clause-begins : goal.returns-clause-begins
returns-clause-begins c = first_client-is

pub returns-clause-calls : goal.returns-clause-calls
returns-clause-calls c = invoked-is

pub returns-clause-goes_on : goal.returns-clause-goes_on
returns-clause-goes_on c = turn-is
