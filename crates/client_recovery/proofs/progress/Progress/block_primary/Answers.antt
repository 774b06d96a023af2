use Rattle.std.proofs.Common.{length, ap, arith}
use Rattle.client_recovery.specs.Progresses.{recovery_at}
use Rattle.client_recovery.proofs.HeldLemmas.{block_some}
use Rattle.client_recovery.proofs.progress.Progress.block_primary.Goals as goal

pub bounds-deref-0 : goal.bounds-deref-0
bounds-deref-0 c = omega (arith, block_some (recovery_at c.args.self.now) c.requires, c.block_places-places.ensures.count, ap length c.deref.ensures.0)

pub bounds-deref-0-2 : goal.bounds-deref-0-2
bounds-deref-0-2 c = omega (arith, block_some (recovery_at c.args.self.now) c.requires, c.block_places-places.ensures.count, ap length c.deref.ensures.0)
