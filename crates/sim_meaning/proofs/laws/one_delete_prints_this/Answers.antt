use Rattle.sim_meaning.proofs.ExampleLemmas.{one_delete-text}
use Rattle.sim_meaning.proofs.laws.one_delete_prints_this.Goals as goal

pub returns : goal.returns
returns c = one_delete-text
