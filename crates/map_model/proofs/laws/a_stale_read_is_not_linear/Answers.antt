use Rattle.map_model.proofs.ExampleLemmas.{stale_read-not_linear}
use Rattle.map_model.proofs.laws.a_stale_read_is_not_linear.Goals as goal

pub returns : goal.returns
returns c = stale_read-not_linear
