use Rattle.std.proofs.Common.{◌≡◌, ◌+◌, ◌*◌, ◌^◌, ◌≤◌, [], ◌∷◌, ◌++◌, drop, length}
use Rattle.outside.specs.Faults.{IsSteady}
use Rattle.script_meaning.specs.Shown.{dump_lines, nodes_from}
use Rattle.script_run.proofs.LeftLemmas.{Left}
use Rattle.script_text.specs.OutputText.{text_of}
use Rattle.script_text.specs.declared.out_lines.OutLine.TheVariants as out
use Rattle.script_run.proofs.printing.write_dump.Given as goal

abbrev pub invariant-loop-node : goal.invariant-loop-node
invariant-loop-node g l = record {
  left : Left (g.K.Sink.held l.fn.sink) (g.K.Sink.held l.sink)
      (text_of (dump_lines l.world))
      (text_of (nodes_from l.node (drop l.node l.nodes) ++ out.Dumped (length (nodes_from 0 l.nodes)) ∷ []));
  count : l.dumped + length (nodes_from l.node (drop l.node l.nodes)) ≡ length (nodes_from 0 l.nodes);
  few : l.dumped ≤ l.node * 2 ^ 32;
  later : g.K.Sink.faults l.fn.sink ≤ g.K.Sink.faults l.sink;
  steady : IsSteady g.K.Sink.cannot_fail g.K.Sink.faults l.fn.sink l.sink;
}
