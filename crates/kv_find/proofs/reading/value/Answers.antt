use Rattle.std.proofs.Common.{rules}
use Rattle.machine.proofs.ViewLemmas.{IsView-of}
use Rattle.kv_find.proofs.ReadingLemmas.{begun-held, key-room, named_word-has}
use Rattle.kv_find.proofs.reading.value.Goals as goal

pub first_place-first-requires-clause-object : goal.first_place-first-requires-clause-object
first_place-first-requires-clause-object c = named_word-has c.args.view.shape c.args.word c.args.key_len c.args.value_len c.requires.object

pub first_place-first-requires-clause-key : goal.first_place-first-requires-clause-key
first_place-first-requires-clause-key c = key-room c.args.view.shape c.args.word c.args.key_len c.args.value_len c.requires.object

pub invariant_of-result : goal.invariant_of-result
invariant_of-result c =
    rw c.new.ensures
    (begun-held c.args.view c.args.word c.args.key_len c.args.value_len c.first_place-first.result (IsView-of c.args.view (search rules) (search rules)) c.requires.object c.requires.some
    c.first_place-first.ensures.words c.first_place-first.ensures.below)
