use Rattle.kv_find.proofs.ReadingLemmas.{behind-key}
use Rattle.kv_find.proofs.reading.first_place.Goals as goal

pub returns-clause-words : goal.returns-clause-words
returns-clause-words c = rw c.div_ceil.ensures (behind-key c.args.view.now c.args.pointer _ c.object_place-object.result c.object_place-object.ensures.words)
