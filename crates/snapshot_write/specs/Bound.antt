-- How many verbs a slot write takes until it has ended, or has read the primary after a list that lost.
use Rattle.std.specs.Prelude.{◌≡◌, ℕ, ◌+◌, ◌-◌, ◌*◌, ◌==◌, not, List, [], ◌∷◌, count_by, drop, length}
use Rattle.machine.specs.declared.slot_write.Wrote.TheVariants.{Going}
use Rattle.machine.specs.Places.{backup_count}
use Rattle.machine.specs.SlotWrite.{SlotWrite, Phase, Gather, Mend, Check, Final, Wait, turn}
use Rattle.verb_words.specs.declared.verbs.Answer.TheVariants.{Word}

-- how many words of a list are not this one
abbrev pub others : ℕ → List ℕ → ℕ
others word list = count_by (λ other. not (other == word)) list

-- how many verbs are left at most: a swap for each backup, a mend for each other word, one check and one final swap
abbrev pub verbs_left_at : Phase → SlotWrite → ℕ
verbs_left_at Gather write = 2 * backup_count write.view write.slot + 1 - length write.list
verbs_left_at (Mend backup) write = others write.fresh (drop backup write.list) + 1
verbs_left_at Check write = 1 + others write.fresh write.list + 1
verbs_left_at Final write = 1
verbs_left_at Wait write = 1

abbrev pub verbs_left : SlotWrite → ℕ
verbs_left write = verbs_left_at write.phase write

-- a write only goes on at each of these answered words, one after the other
abbrev pub GoesOn : SlotWrite → List ℕ → Type 0
GoesOn write [] = Unit {0}
GoesOn write (word ∷ words) = ((turn write (Word word)).told ≡ Going) × GoesOn (turn write (Word word)).state words
