use Rattle.std.proofs.Common.{◌≤◌, drop, map}
use Rattle.machine_world.specs.Ledger.{entry_of}
use Rattle.outside.specs.Faults.{IsSteady}
use Rattle.script_meaning.specs.Shown.{entry_line}
use Rattle.script_run.proofs.LeftLemmas.{Left}
use Rattle.script_text.specs.OutputText.{text_of}
use Rattle.verb_history.specs.Points.{entered_of}
use Rattle.script_run.proofs.printing.write_entries.Given as goal

abbrev pub invariant-loop-one : goal.invariant-loop-one
invariant-loop-one g l = record {
  left : Left (g.K.Sink.held l.fn.sink) (g.K.Sink.held l.sink)
      (text_of (map (λ one. entry_line (entry_of l.world (entered_of one.now))) l.order))
      (text_of (map (λ one. entry_line (entry_of l.world (entered_of one.now))) (drop l.one-index l.order)));
  later : g.K.Sink.faults l.fn.sink ≤ g.K.Sink.faults l.sink;
  steady : IsSteady g.K.Sink.cannot_fail g.K.Sink.faults l.fn.sink l.sink;
}
