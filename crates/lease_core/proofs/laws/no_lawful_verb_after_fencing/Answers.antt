use Rattle.lease_core.proofs.FencingLemmas.{no_lawful_after}
use Rattle.lease_core.proofs.laws.no_lawful_verb_after_fencing.Goals as goal

pub returns : goal.returns
returns c = λ terms lines client fenced verb are at later lawful. no_lawful_after terms lines client fenced verb are at later lawful
