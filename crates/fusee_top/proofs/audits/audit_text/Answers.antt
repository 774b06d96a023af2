use Rattle.std.proofs.Common.{Ok, ap, sym, ◌∙◌}
use Rattle.fusee_top.proofs.OfflineLemmas.{audit_refuses, audit_tells}
use Rattle.fusee_top.proofs.audits.audit_text.Goals as goal

pub returns-in-Ok-clause-ends : goal.returns-in-Ok-clause-ends
returns-in-Ok-clause-ends g c = audit_tells _ c.args.text.now c.deref.result.now _ (c.in-Ok.ensures.lines ∙ ap Ok (sym c.deref.ensures.value)) c.tell_verdict.ensures.ends

pub returns-in-Err-BadLine-clause-ends : goal.returns-in-Err-BadLine-clause-ends
returns-in-Err-BadLine-clause-ends g c = audit_refuses _ c.args.text.now c.in-Err-BadLine.number c.in-Err-BadLine.kind _ (rw c.in-Err-BadLine.field-0-is at c.in-Err-BadLine.ensures.bad) c.write_notice.ensures.ends
