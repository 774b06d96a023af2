use Rattle.race_slot.proofs.SlotLemmas.{unpacked-slot_word, unpacked-gives, unpacked-empty}
use Rattle.race_slot.proofs.laws.words_give_their_slots.Goals as goal

pub returns-clause-slot : goal.returns-clause-slot
returns-clause-slot c = unpacked-slot_word

pub returns-clause-word : goal.returns-clause-word
returns-clause-word c = unpacked-gives

pub returns-clause-empty : goal.returns-clause-empty
returns-clause-empty c = unpacked-empty
