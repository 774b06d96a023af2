use Rattle.kv_write.proofs.WriteLemmas.{first-has, pointer-low}
use Rattle.kv_write.proofs.object_writes.erase.Goals as goal

pub new-requires-clause-has : goal.new-requires-clause-has
new-requires-clause-has c = first-has c.args.view.shape _ c.args.object c.requires.1

pub new-requires-clause-small : goal.new-requires-clause-small
new-requires-clause-small c = pointer-low c.args.view.shape _ c.args.object c.requires.1
