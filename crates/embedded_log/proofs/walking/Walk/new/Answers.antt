use Rattle.std.proofs.Common.{rules}
use Rattle.machine.proofs.LinkWalkKept.{link_walk_of-is}
use Rattle.machine.proofs.ViewLemmas.{IsView-of}
use Rattle.embedded_log.proofs.walking.Walk.new.Goals as goal

pub invariant_of-result : goal.invariant_of-result
invariant_of-result c = link_walk_of-is c.args.view c.args.client c.args.class (IsView-of c.args.view (search rules) (search rules)) c.requires.least c.requires.most c.requires.class
