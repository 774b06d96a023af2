-- The verbs of a joining go to places of the pool.
use Rattle.std.proofs.Common.{◌≡◌, sym, subst}
use Rattle.machine.specs.Joining.{IsJoining, Joining, next}
use Rattle.machine.specs.Places.{IsInPool}
use Rattle.machine.proofs.JoiningKept.{next-inside}
use Rattle.verb_words.specs.declared.verbs.Verb.{Verb}
use Rattle.verb_words.specs.Verb.{place_of}

-- the verb that is due goes to a place of the pool
pub due-inside : (joining now : Joining) (verb : Verb) → IsJoining joining.shape joining → joining ≡ now → verb ≡ next now → IsInPool now.shape (place_of verb)
due-inside joining now verb held is due =
    let Q : Joining → Type 0 = λ j. IsJoining j.shape j in
    let P : Verb → Type 0 = λ v. IsInPool now.shape (place_of v) in
    subst P (sym due) (next-inside now.shape now (subst Q is held))
