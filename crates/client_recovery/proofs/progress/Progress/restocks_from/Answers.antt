use Rattle.client_recovery.proofs.EndLemmas.{reserve-class}
use Rattle.client_recovery.proofs.progress.Progress.restocks_from.Goals as goal

pub change-set-requires-clause-class : goal.change-set-requires-clause-class
change-set-requires-clause-class c =
    reserve-class c.args.self.now.shape c.args.class c.args.self.now.ends.items c.as_slice.result.now c.first_reserve.result c.in-Some.object _ c.requires.ends c.as_slice.ensures.value c.first_reserve.ensures c.in-Some.is c.object.view_is
