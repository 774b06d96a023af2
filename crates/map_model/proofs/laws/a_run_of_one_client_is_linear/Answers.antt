use Rattle.map_model.proofs.LinearLemmas.{IsLinear-sequential}
use Rattle.map_model.proofs.laws.a_run_of_one_client_is_linear.Goals as goal

pub returns : goal.returns
returns c = IsLinear-sequential
