use Rattle.machine.proofs.RecoveryExampleLemmas.{of_first_client-end, of_first_client-verbs}
use Rattle.machine.proofs.master_laws.a_recovery_completes_a_put.Goals as goal

pub returns-clause-verbs : goal.returns-clause-verbs
returns-clause-verbs c = of_first_client-verbs

pub returns-clause-end : goal.returns-clause-end
returns-clause-end c = of_first_client-end
