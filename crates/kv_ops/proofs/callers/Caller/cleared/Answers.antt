use Rattle.kv_ops.proofs.CallLemmas.{taken-member}
use Rattle.kv_ops.proofs.callers.Caller.cleared.Goals as goal

pub writes_body-requires-clause-ready : goal.writes_body-requires-clause-ready
writes_body-requires-clause-ready c = (
  taken-member c.args.self.now.shape c.args.self.now.client c.args.self.now.class c.args.self.now.reserve c.args.self.now.stock c.taken.new.self c.args.self.now.remembered c.requires.ready.0 c.requires.object.of_class.below c.requires.reserve c.taken.ensures,
  c.requires.ready.1,
)
