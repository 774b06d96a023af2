use Rattle.machine.proofs.SparedLemmas.{next-spares}
use Rattle.machine.proofs.laws.clients_spare_the_masters_words.Goals as goal

pub returns : goal.returns
returns c = next-spares
