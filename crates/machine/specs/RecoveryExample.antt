-- The recovery of a client that was stopped in its first put, before the swap of the slot on the primary: key `a`, value
-- `1`, in the smallest pool.
use Rattle.std.specs.Prelude.{List, [], ◌∷◌}
use Rattle.machine.specs.declared.recovery.Recovering.{Recovering}
use Rattle.machine.specs.declared.recovery.Recovering.TheVariants.{Going}
use Rattle.machine.specs.Examples.{at, one_of_each}
use Rattle.machine.specs.Recovery.{next, turn}
use Rattle.machine.specs.RecoveryStage.{Recovery, recovery_of}
use Rattle.verb_words.specs.declared.verbs.Answer.{Answer}
use Rattle.verb_words.specs.declared.verbs.Answer.TheVariants.{Word, Done}
use Rattle.verb_words.specs.declared.verbs.Verb.{Verb}
use Rattle.verb_words.specs.declared.verbs.Verb.TheVariants.{Read, Write, Swap}

-- the verbs of a recovery that gets these answers
abbrev pub verbs_of : Recovery → List Answer → List Verb
verbs_of recovery [] = []
verbs_of recovery (answer ∷ answers) = next recovery ∷ verbs_of (turn recovery answer).state answers

-- what its last verb makes it tell
abbrev pub end_of : Recovery → List Answer → Recovering
end_of recovery [] = Going
end_of recovery (answer ∷ []) = (turn recovery answer).told
end_of recovery (answer ∷ more ∷ answers) = end_of (turn recovery answer).state (more ∷ answers)

abbrev pub of_first_client : Recovery
of_first_client = recovery_of 1 one_of_each

-- what its verbs find
abbrev pub recovery_answers : List Answer
recovery_answers =
    Word 65537 ∷ Word 1 ∷ Word 0x100010 ∷ Word 0x0010000010100011 ∷ Word 0
    ∷ Word 0 ∷ Word 0 ∷ Word 0 ∷ Word 0 ∷ Word 0 ∷ Word 0xfffffffffffffffe
    ∷ Word 0x100010001 ∷ Word 1 ∷ Word 0 ∷ Word 0x61
    ∷ Word 0 ∷ Word 0xaf01000000100010 ∷ Word 0
    ∷ Done ∷ Word 0x0100000000000100 ∷ Word 0x0100000000000100 ∷ []

-- the epoch; the begin word; the head of class 0 and the links of its first two objects; the other heads; the bit of the
-- reserve, which is set; the put's object; the slot; its backup, which has the put's word, and the slot; the begin word;
-- the block, which is released
abbrev pub recovery_verbs : List Verb
recovery_verbs =
    Read (at 0 0) ∷ Read (at 0 16) ∷ Read (at 0 18) ∷ Read (at 1 176) ∷ Read (at 1 184)
    ∷ Read (at 0 19) ∷ Read (at 0 20) ∷ Read (at 0 21) ∷ Read (at 0 22) ∷ Read (at 0 23) ∷ Read (at 1 112)
    ∷ Read (at 1 177) ∷ Read (at 1 178) ∷ Read (at 1 179) ∷ Read (at 1 180)
    ∷ Read (at 1 0) ∷ Swap (at 1 24) 0 0xaf01000000100010 ∷ Swap (at 1 0) 0 0xaf01000000100010
    ∷ Write (at 0 16) 2 ∷ Read (at 1 48) ∷ Swap (at 1 48) 0x0100000000000100 0x0200000000000000 ∷ []
