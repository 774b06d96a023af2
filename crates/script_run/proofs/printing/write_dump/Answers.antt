use Rattle.std.proofs.Common.{◌+◌, ◌<◌, ◌≤◌, [], ◌∷◌, ◌++◌, length, map, drop, sym, ap, subst, ◌∙◌, arith}
use Rattle.machine_world.specs.Standing.{node_sizes}
use Rattle.outside.proofs.FaultsLemmas.{steady_then}
use Rattle.region_view.specs.Sizes.{Sizes}
use Rattle.script_meaning.specs.Shown.{dump_lines, nodes_from, words_from}
use Rattle.script_run.specs.Written.{Writes}
use Rattle.script_text.specs.OutputText.{text_of}
use Rattle.script_text.specs.declared.out_lines.OutLine.TheVariants as out
use Rattle.verb_words.specs.Words.{words_on}
use Rattle.script_run.proofs.DumpLemmas.{dump-ends, node-words, nodes-count, nodes-length, nodes-text, words-few}
use Rattle.script_run.proofs.LeftLemmas.{left_more, left_stops, left_writes}
use Rattle.script_run.proofs.printing.write_dump.Goals as goal

pub write_node-requires-clause-words : goal.write_node-requires-clause-words
write_node-requires-clause-words g c =
    let nodes = c.nodes-nodes.result.now in
    let same = ap (map length) c.nodes-nodes.ensures.nodes ∙ c.nodes-nodes.ensures.sizes ∙ ap node_sizes (sym c.shape-shape.ensures) in
    let sized = ap (λ (s : Sizes). s.nodes) c.shape.view_is in
    c.words_at.ensures ∙ node-words c.shape-shape.result nodes c.loop-node.node same (omega (arith, sized, c.loop-node-test.true))

pub returns-in-Err-clause-written : goal.returns-in-Err-clause-written
returns-in-Err-clause-written g c =
    let nodes = c.nodes-nodes.result.now in
    let node = c.loop-node.node in
    let same = ap (map length) c.nodes-nodes.ensures.nodes ∙ c.nodes-nodes.ensures.sizes ∙ ap node_sizes (sym c.shape-shape.ensures) in
    let sized = ap (λ (s : Sizes). s.nodes) c.shape.view_is in
    let counted = nodes-count c.shape-shape.result nodes same in
    let within : node < length nodes = omega (arith, sized, counted, c.loop-node-test.true) in
    let last = out.Dumped (length (nodes_from 0 nodes)) ∷ [] in
    left_stops _ _ _ _ _ _ c.in-Err.why _ _ (text_of (words_from node 0 (words_on nodes node))) (text_of (nodes_from (node + 1) (drop (node + 1) nodes) ++ last))
    (nodes-text node nodes last within) c.loop-node.invariant.left c.loop-node.invariant.later c.in-Err.ensures.written

pub loop-node-preserved : goal.loop-node-preserved
loop-node-preserved g c =
    let nodes = c.nodes-nodes.result.now in
    let node = c.loop-node.node in
    let words = words_on nodes node in
    let same = ap (map length) c.nodes-nodes.ensures.nodes ∙ c.nodes-nodes.ensures.sizes ∙ ap node_sizes (sym c.shape-shape.ensures) in
    let sized = ap (λ (s : Sizes). s.nodes) c.shape.view_is in
    let counted = nodes-count c.shape-shape.result nodes same in
    let within : node < length nodes = omega (arith, sized, counted, c.loop-node-test.true) in
    let last = out.Dumped (length (nodes_from 0 nodes)) ∷ [] in
    let long = c.words_at.ensures ∙ node-words c.shape-shape.result nodes node same (omega (arith, sized, c.loop-node-test.true)) in
    let few = words-few node 0 words in
    let here = nodes-length node nodes within in
    record {
      left = left_more _ _ _ _ _ (text_of (words_from node 0 words)) _ (nodes-text node nodes last within) c.loop-node.invariant.left c.in-Ok.ensures.written;
      count = omega (arith, here, c.from-dumped.ensures, c.in-Ok.ensures.count, c.loop-node.invariant.count);
      few = omega (arith, few, long, c.words_at.type_inv, c.from-dumped.ensures, c.in-Ok.ensures.count, c.loop-node.invariant.few);
      later = omega (arith, c.loop-node.invariant.later, c.in-Ok.ensures.later);
      steady = steady_then _ _ _ c.loop-node.invariant.steady c.in-Ok.ensures.steady;
    }

pub returns-clause-written : goal.returns-clause-written
returns-clause-written g c =
    let nodes = c.nodes-nodes.result.now in
    let same = ap (map length) c.nodes-nodes.ensures.nodes ∙ c.nodes-nodes.ensures.sizes ∙ ap node_sizes (sym c.shape-shape.ensures) in
    let sized = ap (λ (s : Sizes). s.nodes) c.shape.view_is in
    let counted = nodes-count c.shape-shape.result nodes same in
    let past : length nodes ≤ c.loop-node.node = omega (arith, sized, counted, c.loop-node-test.false) in
    let ends = dump-ends c.loop-node.node c.loop-node.dumped (length (nodes_from 0 nodes)) nodes past c.loop-node.invariant.count in
    left_writes g.K.Sink.held g.K.Sink.faults c.args.sink.now c.loop-node.sink c.write_dumped.new.sink c.write_dumped.result (text_of (dump_lines c.args.world.now)) _ c.loop-node.invariant.left c.loop-node.invariant.later
    (subst (Writes g.K.Sink.held g.K.Sink.faults c.loop-node.sink c.write_dumped.new.sink c.write_dumped.result) (sym ends) c.write_dumped.ensures.written)
