use Rattle.object_division.proofs.StockMarkLemmas.{seen_marks}
use Rattle.object_division.proofs.laws.what_is_seen_is_in_stock_or_untaken.Goals as goal

pub returns : goal.returns
returns c = seen_marks
