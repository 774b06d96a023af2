use Rattle.std.proofs.Common.{rules}
use Rattle.machine.proofs.ObjectNamesLemmas.{names_object-says}
use Rattle.machine.proofs.ViewLemmas.{IsView-of}
use Rattle.key_test.proofs.StateLemmas.{begun-held, first_word-has}
use Rattle.key_test.proofs.program.KeyTest.new.Goals as goal

pub object_place-requires-clause-pointer : goal.object_place-requires-clause-pointer
object_place-requires-clause-pointer c = (names_object-says c.args.view.shape c.args.class c.args.pointer c.requires.object.named).below

pub object_place-requires-clause-word : goal.object_place-requires-clause-word
object_place-requires-clause-word c = first_word-has c.args.view.shape _ c.requires.object

pub invariant_of-result : goal.invariant_of-result
invariant_of-result c = rw c.key_bytes.ensures (begun-held c.args.view c.args.key.now _ c.object_place.result c.key_word.result (IsView-of c.args.view (search rules) (search rules)) c.requires.key c.requires.object c.object_place.ensures.words c.object_place.ensures.below c.key_word.ensures)
