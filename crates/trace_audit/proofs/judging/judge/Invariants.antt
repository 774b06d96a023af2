-- No entry so far is at fault, and the names and the map are theirs.
use Rattle.std.proofs.Common.{◌≡◌, List, take, map}
use Rattle.map_model.specs.Held.{map_of}
use Rattle.map_model.specs.Map.{empty_map, map_after}
use Rattle.map_model.specs.Trace.{Moment}
use Rattle.trace_audit.specs.Faults.{AreFaultless}
use Rattle.trace_audit.specs.Judged.{AreNames}
use Rattle.trace_audit.specs.Listing.{entry_of}
use Rattle.trace_audit.specs.Traced.{IsTold}
use Rattle.trace_audit.proofs.judging.judge.Given as goal

abbrev pub invariant-loop-i : goal.invariant-loop-i
invariant-loop-i l = record {
  faultless : (trace : List Moment) → IsTold trace l.calls → AreFaultless trace (map entry_of l.list) l.i;
  names : AreNames (map entry_of l.list) l.i l.names;
  held : map_of l.held ≡ map_after empty_map (take l.i (map entry_of l.list));
}
