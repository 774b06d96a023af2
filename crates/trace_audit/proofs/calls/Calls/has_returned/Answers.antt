use Rattle.trace_audit.proofs.ToldLemmas.{not_returned}
use Rattle.trace_audit.proofs.calls.Calls.has_returned.Goals as goal

pub returns-in-None : goal.returns-in-None
returns-in-None c = λ trace told. not_returned trace c.args.self.now told c.args.client c.args.number (c.in-None.ensures trace told)
