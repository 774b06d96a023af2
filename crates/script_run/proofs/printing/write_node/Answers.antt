use Rattle.std.proofs.Common.{◌+◌, ◌<◌, ◌∷◌, drop, length, refl, ap, subst, ◌∙◌, arith}
use Rattle.outside.proofs.FaultsLemmas.{steady_then}
use Rattle.script_meaning.specs.Shown.{words_from}
use Rattle.script_text.specs.OutputText.{line_text, text_of}
use Rattle.script_text.specs.declared.out_lines.OutLine.TheVariants as out
use Rattle.verb_words.specs.Words.{words_on}
use Rattle.script_run.proofs.DumpLemmas.{words-stored}
use Rattle.script_run.proofs.LeftLemmas.{Left, left_more, left_start, left_stops}
use Rattle.script_run.proofs.printing.write_node.Goals as goal

pub loop-at-init : goal.loop-at-init
loop-at-init g c =
    let held = g.K.Sink.held c.args.sink.now in
    let text = text_of (words_from c.args.node 0 (words_on c.args.nodes.now c.args.node)) in
    let rest = c.stored_from-at.ensures.rest in
    record {
      within = c.stored_from-at.ensures.most;
      stored = c.stored_from-at.ensures.stored;
      left = subst (Left held held text) (ap text_of rest) (left_start held text);
      count = omega (arith, ap length rest);
      few = omega arith;
      later = omega arith;
      steady = λ sure. (sure, refl);
    }

pub returns-in-Err-clause-written : goal.returns-in-Err-clause-written
returns-in-Err-clause-written g c =
    let node = c.args.node in
    let at = c.loop-at.at in
    let word = c.word-word.result in
    let words = words_on c.args.nodes.now node in
    let within : at < length words = omega (arith, c.requires.words, c.loop-at-test.true) in
    let cut = ap text_of (words-stored node at word words within c.word-word.ensures (c.loop-at.invariant.stored c.loop-at-test.true)) in
    left_stops _ _ _ _ _ _ c.in-Err.why _ _ (line_text (out.Word node at word)) (text_of (words_from node (at + 1) (drop (at + 1) words))) cut c.loop-at.invariant.left c.loop-at.invariant.later
    c.in-Err.ensures.written

pub loop-at-preserved : goal.loop-at-preserved
loop-at-preserved g c =
    let node = c.args.node in
    let at = c.loop-at.at in
    let word = c.word-word.result in
    let words = words_on c.args.nodes.now node in
    let within : at < length words = omega (arith, c.requires.words, c.loop-at-test.true) in
    let here = words-stored node at word words within c.word-word.ensures (c.loop-at.invariant.stored c.loop-at-test.true) in
    let rest = c.stored_from-at-in-loop-at.ensures.rest in
    let cut = ap text_of (here ∙ ap (λ lines. out.Word node at word ∷ lines) rest) in
    record {
      within = c.stored_from-at-in-loop-at.ensures.most;
      stored = c.stored_from-at-in-loop-at.ensures.stored;
      left = left_more _ _ _ _ _ (line_text (out.Word node at word)) _ cut c.loop-at.invariant.left c.in-Ok.ensures.written;
      count = omega (arith, ap length here, ap length rest, c.loop-at.invariant.count);
      few = omega (arith, c.loop-at.invariant.few, c.stored_from-at-in-loop-at.ensures.least);
      later = omega (arith, c.loop-at.invariant.later, c.in-Ok.ensures.later);
      steady = steady_then _ _ _ c.loop-at.invariant.steady c.in-Ok.ensures.steady;
    }
