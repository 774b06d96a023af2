use Rattle.std.proofs.Common.{rules, tests}
use Rattle.std.proofs.lemmas.Iterator.{YieldsList-from_slice}
use Rattle.std.proofs.lemmas.Iterator.Search.{any_from_yields_List}
use Rattle.text_lines.specs.Lines.{has_bad_byte, is_bad}
use Rattle.text_lines.proofs.lines.has_bad_byte.Goals as goal

pub returns : goal.returns
unfolding has_bad_byte
returns c = any_from_yields_List is_bad _ _ _ c.any.ensures.ran (YieldsList-from_slice c.args.line.now cc) (λ x b q k. search (rules, tests))
