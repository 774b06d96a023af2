use Rattle.std.proofs.Common.{◌≡◌, ◌≤◌, take}
use Rattle.std.specs.Io.KnownBytes.{Appends}
use Rattle.lease_core.specs.Run.{answers_along, opening, run_along}
use Rattle.lease_core.specs.Text.{text_of}
use Rattle.outside.specs.Faults.{IsSteady}
use Rattle.fusee_top.proofs.leases.write_answers.Given as goal

abbrev pub invariant-loop-line : goal.invariant-loop-line
invariant-loop-line g l = record {
  run : l.run ≡ run_along (opening l.fn.terms) (take l.line-index l.lines);
  written : Appends (g.K.Sink.held l.fn.sink) (g.K.Sink.held l.sink) (text_of (answers_along (opening l.fn.terms) (take l.line-index l.lines)));
  later : g.K.Sink.faults l.fn.sink ≤ g.K.Sink.faults l.sink;
  steady : IsSteady g.K.Sink.cannot_fail g.K.Sink.faults l.fn.sink l.sink;
}
