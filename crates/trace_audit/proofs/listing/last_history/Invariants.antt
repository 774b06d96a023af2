-- The lines that are left make the list that all lines make.
use Rattle.std.proofs.Common.{◌≡◌, ◌≤◌, drop, map, vec_len}
use Rattle.trace_audit.specs.Listing.{entry_of}
use Rattle.trace_audit.specs.Told.{history_of, list_from}
use Rattle.trace_audit.proofs.listing.last_history.Given as goal

abbrev pub invariant-loop-line : goal.invariant-loop-line
invariant-loop-line l = record {
  entries : list_from (map entry_of l.list.items) (drop l.line-index l.lines) ≡ history_of l.lines;
  length : vec_len l.list ≤ l.line-index;
}
