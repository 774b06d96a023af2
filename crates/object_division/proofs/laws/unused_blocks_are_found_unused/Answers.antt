use Rattle.object_division.proofs.UnusedBlockLemmas.{turn-comes}
use Rattle.object_division.proofs.laws.unused_blocks_are_found_unused.Goals as goal

pub returns : goal.returns
returns c = λ stock found backup at is. turn-comes stock stock.phase found backup (λ i. stock.phase) at is
