use Rattle.std.proofs.Common.{arith}
use Rattle.trace_audit.proofs.ToldLemmas.{bool_map, no_call_again, no_call_zero, no_call_gap, may_call_first, may_call_next}
use Rattle.trace_audit.proofs.calls.Calls.may_call.Goals as goal

pub returns-then-number-eq0 : goal.returns-then-number-eq0
returns-then-number-eq0 c = λ trace told may. no_call_zero trace c.args.self.now told c.args.client (rw c.if-number-eq0.true at may)

pub returns-then-is_called : goal.returns-then-is_called
returns-then-is_called c = λ trace told may. no_call_again trace c.args.self.now told c.args.client c.args.number (c.if-is_called.ensures trace told) may

pub returns-then-number-eq1 : goal.returns-then-number-eq1
returns-then-number-eq1 c = λ trace told. may_call_first trace c.args.self.now told c.args.client c.args.number c.if-number-eq1.true (c.if-is_stopped.ensures trace told) (c.if-is_called.ensures trace told)

pub returns : goal.returns
returns c = λ trace told.
    bool_map c.has_returned.result _ _ _ _
    (may_call_next trace c.args.self.now told c.args.client c.args.number (omega arith) (c.if-is_stopped.ensures trace told) (c.if-is_called.ensures trace told))
    (no_call_gap trace c.args.self.now told c.args.client c.args.number (omega arith))
    (c.has_returned.ensures trace told)
