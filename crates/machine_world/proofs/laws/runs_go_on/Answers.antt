use Rattle.machine_world.proofs.RunLemmas.{run-more, run-none, verbs_taken-more}
use Rattle.machine_world.proofs.laws.runs_go_on.Goals as goal

pub returns-clause-none : goal.returns-clause-none
returns-clause-none c = run-none

pub returns-clause-more : goal.returns-clause-more
returns-clause-more c = run-more

pub returns-clause-verbs : goal.returns-clause-verbs
returns-clause-verbs c = verbs_taken-more
