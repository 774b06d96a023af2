use Rattle.kv_write.proofs.ResolveLemmas.{object-has, object-low}
use Rattle.client_recovery.proofs.objects.word_place.Goals as goal

pub object_place-node-requires-clause-pointer : goal.object_place-node-requires-clause-pointer
object_place-node-requires-clause-pointer c = object-low c.args.view.now.shape _ c.args.object c.requires.object c.object.view_is

pub object_place-node-requires-clause-word : goal.object_place-node-requires-clause-word
object_place-node-requires-clause-word c = object-has c.args.view.now.shape _ c.args.object c.requires.object c.object.view_is
