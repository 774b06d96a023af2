use Rattle.sim_meaning.proofs.ExampleLemmas.{a_stop_and_two_losses-text}
use Rattle.sim_meaning.proofs.laws.a_stop_and_two_losses_print_this.Goals as goal

pub returns : goal.returns
returns c = a_stop_and_two_losses-text
