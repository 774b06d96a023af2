use Rattle.embedded_log.proofs.StateLemmas.{first-place, pointer-has, pointer-low}
use Rattle.embedded_log.proofs.walking.link_place.Goals as goal

pub object_place-requires-clause-pointer : goal.object_place-requires-clause-pointer
object_place-requires-clause-pointer c = pointer-low c.args.view.now.shape c.args.class c.args.pointer c.requires

pub object_place-requires-clause-word : goal.object_place-requires-clause-word
object_place-requires-clause-word c = pointer-has c.args.view.now.shape c.args.class c.args.pointer c.requires

pub returns : goal.returns
returns c = first-place c.args.view.now c.args.pointer c.object_place.result c.object_place.ensures.words
