use Rattle.std.proofs.Common.{rules}
use Rattle.client_recovery.proofs.HeldLemmas.{slot-is}
use Rattle.client_recovery.proofs.progress.Progress.fresh.Goals as goal

pub pack-requires : goal.pack-requires
pack-requires c = slot-is c.args.self.now.shape _ c.args.self.now.object c.finger.result c.units.result c.requires.0.1 c.object.view_is (search rules) c.units.ensures
