use Rattle.kv_ops.specs.Callers.{client_of}
use Rattle.kv_ops.proofs.CallLemmas.{is_own-else}
use Rattle.kv_ops.proofs.callers.Caller.is_own.Goals as goal

pub returns-else-word-from : goal.returns-else-word-from
returns-else-word-from c = is_own-else (client_of c.args.self.now) c.args.word c.from.result c.requires c.from.ensures c.if-word-from.false
