use Rattle.std.proofs.Common.{rules}
use Rattle.machine.proofs.ViewLemmas.{IsView-of}
use Rattle.kv_write.proofs.CourseLemmas.{begun}
use Rattle.kv_write.proofs.course.Course.new.Goals as goal

pub invariant_of-result : goal.invariant_of-result
invariant_of-result c = begun c.args.view c.args.object _ (IsView-of c.args.view (search rules) (search rules)) c.requires.has (search rules)

pub returns-clause-view : goal.returns-clause-view
returns-clause-view c = IsView-of c.args.view (search rules) (search rules)
