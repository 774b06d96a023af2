use Rattle.sim_plan.proofs.PlanLemmas.{first_words-stream_of}
use Rattle.sim_plan.proofs.laws.words_are_those_of_next_u32.Goals as goal
use Rattle.sim_plan.specs.Made.{seeded}

pub returns : goal.returns
returns c = λ count seed. first_words-stream_of count (seeded seed)
