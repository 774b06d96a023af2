use Rattle.std.proofs.Common.{arith, rules}
use Rattle.object_form.proofs.ClassLemmas.{class_in-least}
use Rattle.object_form.proofs.classes.class_for.Goals as goal

pub returns-clause-value : goal.returns-clause-value
returns-clause-value c = class_in-least _ _ _ (omega (arith, c.loop-class.invariant.class)) (search rules) (search rules)
