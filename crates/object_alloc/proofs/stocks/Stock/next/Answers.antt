use Rattle.object_alloc.proofs.KeptLemmas.{due-inside}
use Rattle.object_alloc.proofs.stocks.Stock.next.Goals as goal

pub returns-clause-inside : goal.returns-clause-inside
returns-clause-inside c = due-inside c.self.inside.chooser c.args.self.now c.next.result c.self.invariant c.self.view_is c.next.ensures
