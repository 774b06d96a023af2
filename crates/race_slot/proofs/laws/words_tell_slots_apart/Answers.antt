use Rattle.race_slot.proofs.SlotLemmas.{slot_word-injective}
use Rattle.race_slot.proofs.laws.words_tell_slots_apart.Goals as goal

pub returns : goal.returns
returns c = slot_word-injective
