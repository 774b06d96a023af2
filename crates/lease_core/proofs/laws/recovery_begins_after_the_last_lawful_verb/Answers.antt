use Rattle.lease_core.proofs.FencingLemmas.{recovery_after}
use Rattle.lease_core.proofs.laws.recovery_begins_after_the_last_lawful_verb.Goals as goal

pub returns : goal.returns
returns c = recovery_after
