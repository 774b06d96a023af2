use Rattle.std.proofs.Common.{rules}
use Rattle.object_alloc.proofs.KeptLemmas.{first-kept}
use Rattle.object_alloc.proofs.stocks.Stock.new.Goals as goal

pub invariant_of-result : goal.invariant_of-result
invariant_of-result c = first-kept _ (search rules) (search rules) (search rules) (c.requires.least, c.requires.most)
