use Rattle.std.proofs.Common.{refl, arith, length-drop, length-take}
use Rattle.std.proofs.lemmas.Bool.Decides.{nat_tests}
use Rattle.text_lines.proofs.LineLemmas.{cut_at_end, cut_at_feed, no_lines}
use Rattle.text_lines.proofs.lines.next_line.Goals as goal

pub returns-then-is_empty : goal.returns-then-is_empty
returns-then-is_empty c = no_lines c.args.text.now (grind (arith, nat_tests, c.is_empty.ensures, c.if-is_empty.true))

pub returns-in-Some : goal.returns-in-Some
returns-in-Some c = cut_at_feed c.args.text.now c.without_return.result.now _ c.in-Some.at c.in-Some.ensures c.without_return.ensures refl

pub returns-in-None : goal.returns-in-None
returns-in-None c = cut_at_end c.args.text.now _ c.in-None.ensures (grind (arith, nat_tests, c.is_empty.ensures, c.if-is_empty.false)) (simp (length-take, length-drop) (omega arith))
