use Rattle.kv_find.proofs.PassedLemmas.{tested-read}
use Rattle.kv_find.proofs.laws.a_tested_word_was_read_of_its_slot.Goals as goal

pub returns : goal.returns
returns c = tested-read
