use Rattle.std.proofs.Common.{arith, map}
use Rattle.trace_audit.specs.Listing.{entry_of}
use Rattle.trace_audit.proofs.JudgeLemmas.{earliest_before, told_before, mapped_at}
use Rattle.trace_audit.proofs.judging.returns_after.Goals as goal

pub loop-i-preserved : goal.loop-i-preserved
loop-i-preserved c = record {
  length = omega arith;
  earliest = λ trace told.
      rw c.earlier-earliest.ensures (earliest_before trace (map entry_of c.args.list.now) c.loop-i.i (omega arith) c.loop-i.earliest (c.loop-i.invariant.earliest trace told) told.tidy
      (entry_of c.index-list-i.result) (mapped_at entry_of c.args.list.now _ c.index-list-i.result (omega arith) c.index-list-i.is) c.return_time.result (c.return_time.ensures trace told));
  told = λ trace told. told_before trace (map entry_of c.args.list.now) c.loop-i.i (omega arith) c.loop-i.earliest (c.loop-i.invariant.earliest trace told) c.loop-i.later.items (c.loop-i.invariant.told trace told);
}
