use Rattle.sim_meaning.proofs.ExampleLemmas.{a_stopped_put-text}
use Rattle.sim_meaning.proofs.laws.a_stopped_put_prints_this.Goals as goal

pub returns : goal.returns
returns c = a_stopped_put-text
