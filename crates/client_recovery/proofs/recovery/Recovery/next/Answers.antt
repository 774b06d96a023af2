use Rattle.client_recovery.specs.Progresses.{recovery_at}
use Rattle.client_recovery.proofs.TurnLemmas.{due-inside}
use Rattle.client_recovery.proofs.recovery.Recovery.next.Goals as goal

pub returns-clause-inside : goal.returns-clause-inside
returns-clause-inside c = due-inside (recovery_at c.self.inside.progress) c.args.self.now c.next.result c.self.invariant c.self.view_is c.next.ensures
