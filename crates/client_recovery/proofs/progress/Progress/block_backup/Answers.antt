use Rattle.std.proofs.Common.{◌∙◌}
use Rattle.client_recovery.specs.Progresses.{recovery_at}
use Rattle.client_recovery.proofs.HeldLemmas.{backup-place}
use Rattle.machine.specs.RecoveryStage.{view_of, word_at_block}
use Rattle.client_recovery.proofs.progress.Progress.block_backup.Goals as goal

pub returns : goal.returns
returns c =
    backup-place (view_of (recovery_at c.args.self.now)) (word_at_block (recovery_at c.args.self.now)) c.args.backup c.deref.result.now
    (c.deref.ensures.0 ∙ c.block_places-places.ensures.places) c.requires.backup
