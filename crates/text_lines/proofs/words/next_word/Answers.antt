use Rattle.std.proofs.Common.{refl, arith, length-drop, length-take}
use Rattle.text_lines.proofs.WordLemmas.{cut_at_blank, cut_at_last, no_words}
use Rattle.text_lines.proofs.words.next_word.Goals as goal

pub returns-in_default : goal.returns-in_default
returns-in_default c = no_words c.args.line.now c.in_default.ensures

pub returns-in-Some-blank_at : goal.returns-in-Some-blank_at
returns-in-Some-blank_at c = cut_at_blank c.args.line.now _ _ _ c.in-Some.start c.in-Some-blank_at.end c.in-Some.ensures refl c.in-Some-blank_at.ensures refl refl

pub returns-in-None : goal.returns-in-None
returns-in-None c = cut_at_last c.args.line.now _ _ c.in-Some.start c.in-Some.ensures refl c.in-None.ensures (simp (length-take, length-drop) (omega arith))
