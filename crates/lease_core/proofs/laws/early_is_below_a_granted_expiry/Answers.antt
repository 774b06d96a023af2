use Rattle.lease_core.proofs.EarlyLemmas.{early_is, early_where_granted}
use Rattle.lease_core.proofs.laws.early_is_below_a_granted_expiry.Goals as goal

pub returns-clause-early : goal.returns-clause-early
returns-clause-early c = λ terms lines at client p m expiry. early_is terms lines at client p m expiry

pub returns-clause-granted : goal.returns-clause-granted
returns-clause-granted c = λ terms lines at client p m expiry. early_where_granted terms lines at client p m expiry
