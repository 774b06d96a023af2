use Rattle.slot_runs.proofs.PlaceLemmas.{backup_count-bounds}
use Rattle.slot_runs.proofs.RunLemmas.{HoldsAlong-opening}
use Rattle.snapshot_write.proofs.laws.rounds.Goals as goal

pub returns-clause-backups : goal.returns-clause-backups
returns-clause-backups c = backup_count-bounds

pub returns-clause-holds : goal.returns-clause-holds
returns-clause-holds c = HoldsAlong-opening
