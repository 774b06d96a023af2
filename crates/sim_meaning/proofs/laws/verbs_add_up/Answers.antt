use Rattle.sim_meaning.proofs.VerbLemmas.{verbs_in-append}
use Rattle.sim_meaning.proofs.laws.verbs_add_up.Goals as goal

pub returns : goal.returns
returns c = verbs_in-append
