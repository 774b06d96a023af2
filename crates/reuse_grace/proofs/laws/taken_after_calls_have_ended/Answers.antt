use Rattle.reuse_grace.proofs.GraceLemmas.{begins-taken}
use Rattle.reuse_grace.proofs.laws.taken_after_calls_have_ended.Goals as goal

pub returns : goal.returns
returns c = begins-taken
