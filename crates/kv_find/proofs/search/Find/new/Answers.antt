use Rattle.std.proofs.Common.{rules}
use Rattle.key_test.proofs.StateLemmas.{first_object}
use Rattle.machine.proofs.ViewLemmas.{IsView-of}
use Rattle.kv_find.proofs.StateLemmas.{begun-held}
use Rattle.kv_find.proofs.search.Find.new.Goals as goal

pub new-requires-clause-object : goal.new-requires-clause-object
new-requires-clause-object c = first_object c.args.view.shape (IsView-of c.args.view (search rules) (search rules)).limits

pub invariant_of-result : goal.invariant_of-result
invariant_of-result c =
    rw c.new.ensures
    (begun-held c.args.view c.args.key.now c.order.result.items c.args.from c.finger.result c.index_primary.result (IsView-of c.args.view (search rules) (search rules)) c.requires.key c.requires.from (search rules) c.finger.ensures c.index_primary.ensures)
