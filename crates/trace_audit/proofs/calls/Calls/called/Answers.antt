use Rattle.std.proofs.Common.{refl}
use Rattle.trace_audit.specs.Told.{call_of}
use Rattle.trace_audit.proofs.ToldLemmas.{called_step}
use Rattle.trace_audit.proofs.calls.Calls.called.Goals as goal

pub returns-clause-told : goal.returns-clause-told
returns-clause-told c = λ trace told.
    let may = c.if-not-may_call.ensures trace told in
    (may, called_step trace c.args.self.now told _ c.args.client c.args.number (call_of c.args.call.now) _ may refl refl refl c.in_ok-enter.ensures refl refl)
