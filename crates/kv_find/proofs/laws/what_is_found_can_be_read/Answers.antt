use Rattle.kv_find.proofs.VerbLemmas.{found-room}
use Rattle.kv_find.proofs.laws.what_is_found_can_be_read.Goals as goal

pub returns : goal.returns
returns c = found-room
