use Rattle.kv_write.proofs.WriteLemmas.{begun-body, first-has, for_lengths, pointer-low}
use Rattle.kv_write.proofs.object_writes.ObjectWrite.begin.Goals as goal

pub new-self-inside-requires-clause-has : goal.new-self-inside-requires-clause-has
new-self-inside-requires-clause-has c = first-has c.args.view.shape _ c.args.object (for_lengths _ _ _ _ c.requires.key c.requires.value c.requires.object).0

pub new-self-inside-requires-clause-small : goal.new-self-inside-requires-clause-small
new-self-inside-requires-clause-small c = pointer-low c.args.view.shape _ c.args.object (for_lengths _ _ _ _ c.requires.key c.requires.value c.requires.object).0

pub invariant_of-self : goal.invariant_of-self
invariant_of-self c =
    rw (c.new-self-inside.ensures.course, c.fill.ensures)
    (begun-body c.args.view c.args.object c.args.kind c.args.key.now c.args.value.now c.link_word-self-inside.result c.new-self-inside.ensures.view c.requires.key c.requires.value c.requires.object)
