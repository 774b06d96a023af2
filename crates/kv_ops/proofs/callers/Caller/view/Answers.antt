use Rattle.kv_ops.proofs.ViewLemmas.{covers-each}
use Rattle.kv_ops.proofs.callers.Caller.view.Goals as goal

pub invariant_of-result : goal.invariant_of-result
invariant_of-result c = covers-each (record { shape = c.args.self.now.shape; mask = c.args.self.now.mask }) c.requires
