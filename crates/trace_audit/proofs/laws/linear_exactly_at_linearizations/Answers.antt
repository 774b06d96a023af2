use Rattle.trace_audit.proofs.VerdictLemmas.{linear_exactly}
use Rattle.trace_audit.proofs.laws.linear_exactly_at_linearizations.Goals as goal

pub returns : goal.returns
returns c = linear_exactly
