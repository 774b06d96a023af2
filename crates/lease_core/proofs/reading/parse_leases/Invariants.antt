use Rattle.std.proofs.Common.{◌≡◌, ◌+◌, ◌≤◌, length}
use Rattle.text_lines.specs.Lines.{lines_of}
use Rattle.lease_core.specs.Grammar.{events_from}
use Rattle.lease_core.proofs.ReadingLemmas.{after}
use Rattle.lease_core.proofs.reading.parse_leases.Given as goal

abbrev pub decreases-loop-line : goal.decreases-loop-line
decreases-loop-line l = length l.rest

abbrev pub invariant-loop-line : goal.invariant-loop-line
invariant-loop-line l = record {
  read : after l.events.items (events_from l.number (lines_of l.rest)) ≡ events_from 1 (lines_of l.text);
  few : l.number + length l.rest ≤ length l.text + 1;
}
