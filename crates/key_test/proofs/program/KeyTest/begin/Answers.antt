use Rattle.std.proofs.Common.{subst, sym}
use Rattle.machine.proofs.ObjectNamesLemmas.{names_object-says}
use Rattle.machine.specs.KeyTest.{KeyTest}
use Rattle.machine.specs.ObjectNames.{IsObject}
use Rattle.key_test.proofs.StateLemmas.{first_word-has}
use Rattle.key_test.proofs.program.KeyTest.begin.Goals as goal

pub object_place-self-inside-requires-clause-pointer : goal.object_place-self-inside-requires-clause-pointer
object_place-self-inside-requires-clause-pointer c = (names_object-says c.args.self.now.view.shape c.args.class c.args.pointer c.requires.object.named).below

pub object_place-self-inside-requires-clause-word : goal.object_place-self-inside-requires-clause-word
object_place-self-inside-requires-clause-word c =
    let named = subst (λ (t : KeyTest). IsObject t.view.shape (record { pointer = c.args.pointer; class = c.args.class })) (sym c.self.view_is) c.requires.object in
    first_word-has c.self.inside.view.shape _ named
