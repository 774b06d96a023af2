use Rattle.std.proofs.Common.{◌≡◌, ◌+◌, ◌-◌, ◌<◌, ◌≤◌, ◌==◌, drop, false, length}
use Rattle.std.specs.Prelude.{slice_index}
use Rattle.outside.specs.Faults.{IsSteady}
use Rattle.script_meaning.specs.Shown.{words_from}
use Rattle.script_run.proofs.LeftLemmas.{Left}
use Rattle.script_text.specs.OutputText.{text_of}
use Rattle.verb_words.specs.Words.{words_on}
use Rattle.script_run.proofs.printing.write_node.Given as goal

abbrev pub invariant-loop-at : goal.invariant-loop-at
invariant-loop-at g l = record {
  within : l.at ≤ l.words;
  stored : l.at < l.words → (slice_index (words_on l.nodes l.node) l.at == 0) ≡ false;
  left : Left (g.K.Sink.held l.fn.sink) (g.K.Sink.held l.sink)
      (text_of (words_from l.node 0 (words_on l.nodes l.node)))
      (text_of (words_from l.node l.at (drop l.at (words_on l.nodes l.node))));
  count : l.count + length (words_from l.node l.at (drop l.at (words_on l.nodes l.node))) ≡ length (words_from l.node 0 (words_on l.nodes l.node));
  few : l.count ≤ l.at;
  later : g.K.Sink.faults l.fn.sink ≤ g.K.Sink.faults l.sink;
  steady : IsSteady g.K.Sink.cannot_fail g.K.Sink.faults l.fn.sink l.sink;
}

abbrev pub decreases-loop-at : goal.decreases-loop-at
decreases-loop-at g l = l.words - l.at
