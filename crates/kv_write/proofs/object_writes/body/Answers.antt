use Rattle.kv_write.proofs.WriteLemmas.{begun-body, first-has, for_lengths, pointer-low}
use Rattle.kv_write.proofs.object_writes.body.Goals as goal

pub new-requires-clause-has : goal.new-requires-clause-has
new-requires-clause-has c = first-has c.args.view.shape _ c.args.object (for_lengths _ _ _ _ c.requires.key c.requires.value c.requires.object).0

pub new-requires-clause-small : goal.new-requires-clause-small
new-requires-clause-small c = pointer-low c.args.view.shape _ c.args.object (for_lengths _ _ _ _ c.requires.key c.requires.value c.requires.object).0

pub invariant_of-result : goal.invariant_of-result
invariant_of-result c =
    rw (c.new.ensures.course, c.fill.ensures)
    (begun-body c.args.view c.args.object c.args.kind c.args.key.now c.args.value.now c.link_word.result c.new.ensures.view c.requires.key c.requires.value c.requires.object)
