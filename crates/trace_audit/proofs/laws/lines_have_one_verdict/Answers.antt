use Rattle.trace_audit.proofs.VerdictLemmas.{one_verdict}
use Rattle.trace_audit.proofs.laws.lines_have_one_verdict.Goals as goal

pub returns : goal.returns
returns c = one_verdict
