-- What a settling was answered, from its beginning on.
use Rattle.std.specs.Prelude.{◌≡◌, ℕ, List, [], ◌∷◌, ◌++◌}
use Rattle.machine.specs.Settling.{ReadBegin, Settling, turn}
use Rattle.verb_words.specs.declared.verbs.Answer.{Answer}
use Rattle.verb_words.specs.declared.verbs.Answer.TheVariants.{Word}

-- a settling after these answers
abbrev pub after_all : Settling → List Answer → Settling
after_all settling [] = settling
after_all settling (answer ∷ answers) = after_all (turn settling answer).state answers

-- one of the answers is the begin word of a client, and it is this word
pub record WasAnswered (start : Settling) (answers : List Answer) (client begin : ℕ) : Type 0 where
  pub before : List Answer
  pub later : List Answer
  pub are : answers ≡ before ++ Word begin ∷ later
  pub asked : (after_all start before).phase ≡ ReadBegin client
