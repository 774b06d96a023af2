use Rattle.trace_audit.proofs.calls.Calls.take.Goals as goal

pub returns-in-Called-clause-told : goal.returns-in-Called-clause-told
returns-in-Called-clause-told c = rw c.in-Called.is c.called.ensures.told

pub returns-in-Ended-clause-told : goal.returns-in-Ended-clause-told
returns-in-Ended-clause-told c = rw c.in-Ended.is c.ended.ensures.told
