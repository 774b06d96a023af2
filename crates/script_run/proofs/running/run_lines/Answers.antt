use Rattle.std.proofs.Common.{sym, subst, arith}
use Rattle.outside.proofs.FaultsLemmas.{steady_then}
use Rattle.script_meaning.specs.Lines.{meaning}
use Rattle.script_run.specs.Written.{Writes}
use Rattle.script_text.specs.OutputText.{text_of}
use Rattle.script_run.proofs.LeftLemmas.{left_more, left_stops, left_writes}
use Rattle.script_run.proofs.ScriptLemmas.{runs-cut, runs-none, runs-step}
use Rattle.script_run.proofs.running.run_lines.Goals as goal

pub returns-in-Err-clause-written : goal.returns-in-Err-clause-written
returns-in-Err-clause-written g c =
    let line = c.line-item.result in
    let cut = runs-cut c.args.lines.now c.loop-line.line-index line c.loop-line.shows c.loop-line.world c.loop-line-test.true c.line-item.is in
    left_stops _ _ _ _ _ _ c.in-Err.why _ _ (text_of (meaning c.loop-line.shows c.loop-line.world line).lines) _ cut c.loop-line.invariant.left c.loop-line.invariant.later c.in-Err.ensures.written

pub loop-line-preserved : goal.loop-line-preserved
loop-line-preserved g c =
    let line = c.line-item.result in
    let cut = runs-step c.args.lines.now c.loop-line.line-index line c.loop-line.shows c.shows_after-shows.result c.loop-line.world c.run_line.new.world c.loop-line-test.true c.line-item.is
    c.shows_after-shows.ensures c.in-Ok.ensures.world in
    record {
      left = left_more _ _ _ _ _ (text_of (meaning c.loop-line.shows c.loop-line.world line).lines) _ cut c.loop-line.invariant.left c.in-Ok.ensures.written;
      few = omega (arith, c.loop-line.invariant.few, c.in-Ok.ensures.few);
      later = omega (arith, c.loop-line.invariant.later, c.in-Ok.ensures.later);
      steady = steady_then _ _ _ c.loop-line.invariant.steady c.in-Ok.ensures.steady;
    }

pub returns-clause-written : goal.returns-clause-written
returns-clause-written g c =
    let ends = runs-none c.args.lines.now c.loop-line.line-index c.loop-line.shows c.loop-line.world c.loop-line-test.false in
    left_writes g.K.Sink.held g.K.Sink.faults c.args.sink.now c.loop-line.sink c.write_ending.new.sink c.write_ending.result _ _ c.loop-line.invariant.left c.loop-line.invariant.later
    (subst (Writes g.K.Sink.held g.K.Sink.faults c.loop-line.sink c.write_ending.new.sink c.write_ending.result) (sym ends) c.write_ending.ensures.written)
