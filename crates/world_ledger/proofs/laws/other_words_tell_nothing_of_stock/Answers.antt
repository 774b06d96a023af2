use Rattle.world_ledger.proofs.StockLemmas.{in_stock-other}
use Rattle.world_ledger.proofs.laws.other_words_tell_nothing_of_stock.Goals as goal

pub returns : goal.returns
returns c = in_stock-other
