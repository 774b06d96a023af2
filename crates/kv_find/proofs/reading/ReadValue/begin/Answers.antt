use Rattle.std.proofs.Common.{rules}
use Rattle.machine.proofs.ViewLemmas.{IsView-of}
use Rattle.kv_find.proofs.ReadingLemmas.{begun-held, key-room, named_word-has}
use Rattle.kv_find.proofs.reading.ReadValue.begin.Goals as goal

pub first_place-self-inside-requires-clause-object : goal.first_place-self-inside-requires-clause-object
first_place-self-inside-requires-clause-object c = named_word-has c.args.view.shape c.args.word c.args.key_len c.args.value_len c.requires.object

pub first_place-self-inside-requires-clause-key : goal.first_place-self-inside-requires-clause-key
first_place-self-inside-requires-clause-key c = key-room c.args.view.shape c.args.word c.args.key_len c.args.value_len c.requires.object

pub invariant_of-self : goal.invariant_of-self
invariant_of-self c =
    rw c.clear.ensures
    (begun-held c.args.view c.args.word c.args.key_len c.args.value_len c.first_place-self-inside.result (IsView-of c.args.view (search rules) (search rules)) c.requires.object c.requires.some
    c.first_place-self-inside.ensures.words c.first_place-self-inside.ensures.below)
