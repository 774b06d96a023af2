use Rattle.std.proofs.Common.{◌+◌, ◌*◌, ◌^◌, ◌≤◌, drop, false}
use Rattle.outside.specs.Faults.{IsSteady}
use Rattle.script_meaning.specs.Scripts.{runs}
use Rattle.script_run.proofs.LeftLemmas.{Left}
use Rattle.script_text.specs.OutputText.{text_of}
use Rattle.script_run.proofs.running.run_lines.Given as goal

abbrev pub invariant-loop-line : goal.invariant-loop-line
invariant-loop-line g l = record {
  left : Left (g.K.Sink.held l.fn.sink) (g.K.Sink.held l.sink)
      (text_of (runs l.lines false l.fn.world).lines)
      (text_of (runs (drop l.line-index l.lines) l.shows l.world).lines);
  few : l.world.events ≤ l.line-index * (2 ^ 32 + 1);
  later : g.K.Sink.faults l.fn.sink ≤ g.K.Sink.faults l.sink;
  steady : IsSteady g.K.Sink.cannot_fail g.K.Sink.faults l.fn.sink l.sink;
}
