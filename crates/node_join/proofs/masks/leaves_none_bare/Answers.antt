use Rattle.std.proofs.Common.{sym, rules}
use Rattle.node_join.proofs.MaskLemmas.{leaves_none_bare-true}
use Rattle.machine.proofs.ViewLemmas.{leaves_none_bare-false}
use Rattle.node_join.proofs.masks.leaves_none_bare.Goals as goal

pub returns-in-Some : goal.returns-in-Some
returns-in-Some c = sym (leaves_none_bare-false c.args.shape.now c.args.mask c.in-Some.field-0 c.in-Some.ensures.within c.in-Some.ensures.bare)

pub returns-in-None : goal.returns-in-None
returns-in-None c = sym (leaves_none_bare-true c.args.shape.now c.args.mask (search rules) c.in-None.ensures.none)
