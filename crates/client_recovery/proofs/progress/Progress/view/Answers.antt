use Rattle.client_recovery.specs.Progresses.{recovery_at}
use Rattle.machine.specs.RecoveryStage.{view_of}
use Rattle.client_recovery.proofs.HeldLemmas.{covered}
use Rattle.client_recovery.proofs.progress.Progress.view.Goals as goal

pub invariant_of-result : goal.invariant_of-result
invariant_of-result c = covered (view_of (recovery_at c.args.self.now)) c.requires
