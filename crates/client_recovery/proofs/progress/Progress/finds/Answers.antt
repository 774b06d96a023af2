use Rattle.machine.proofs.KeySearchLemmas.{order_of-some}
use Rattle.client_recovery.proofs.progress.Progress.finds.Goals as goal

pub new-find-requires-clause-from : goal.new-find-requires-clause-from
new-find-requires-clause-from c = order_of-some _ _
