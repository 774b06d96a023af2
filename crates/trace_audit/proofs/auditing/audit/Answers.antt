use Rattle.trace_audit.proofs.VerdictLemmas.{linear_result}
use Rattle.trace_audit.proofs.auditing.audit.Goals as goal

pub returns-clause-linear : goal.returns-clause-linear
returns-clause-linear c = linear_result c.args.lines.now c.verdict_on.result c.verdict_on.ensures
