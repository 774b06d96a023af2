use Rattle.slot_rounds.proofs.ExampleLemmas.{IsAllowed-contended, IsAllowedSince-contended}
use Rattle.slot_rounds.proofs.laws.two_writers_at_once.Goals as goal

pub returns-clause-allowed : goal.returns-clause-allowed
returns-clause-allowed c = IsAllowed-contended

pub returns-clause-allowed_since : goal.returns-clause-allowed_since
returns-clause-allowed_since c = IsAllowedSince-contended
