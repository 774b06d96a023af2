use Rattle.kv_write.proofs.WriteLemmas.{due-has, due-low}
use Rattle.kv_write.proofs.object_writes.LogWrite.next.Goals as goal

pub place-requires-clause-word : goal.place-requires-clause-word
place-requires-clause-word c = due-low _ _ c.args.self.now c.present-word.result c.self.invariant c.self.view_is c.present-word.ensures

pub place-requires-clause-has : goal.place-requires-clause-has
place-requires-clause-has c = due-has _ _ c.args.self.now c.present-word.result c.self.invariant c.self.view_is c.present-word.ensures
