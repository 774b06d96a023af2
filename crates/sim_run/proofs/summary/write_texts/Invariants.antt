use Rattle.std.proofs.Common.{◌≤◌, take}
use Rattle.std.specs.Io.KnownBytes.{Appends}
use Rattle.std.specs.List.{flat_map}
use Rattle.outside.specs.Faults.{IsSteady}
use Rattle.sim_run.proofs.summary.write_texts.Given as goal

abbrev pub invariant-loop-text : goal.invariant-loop-text
invariant-loop-text g l = record {
  written : Appends (g.K.Sink.held l.fn.sink) (g.K.Sink.held l.sink) (flat_map (λ text. text.items) (take l.text-index l.texts));
  later : g.K.Sink.faults l.fn.sink ≤ g.K.Sink.faults l.sink;
  steady : IsSteady g.K.Sink.cannot_fail g.K.Sink.faults l.fn.sink l.sink;
}
