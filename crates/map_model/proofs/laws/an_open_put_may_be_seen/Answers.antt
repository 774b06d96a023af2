use Rattle.map_model.proofs.ExampleLemmas.{open_put-linear}
use Rattle.map_model.proofs.laws.an_open_put_may_be_seen.Goals as goal

pub returns : goal.returns
returns c = open_put-linear
