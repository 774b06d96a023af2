use Rattle.std.proofs.Common.{◌≡◌, take, ap, ◌∙◌, arith}
use Rattle.std.proofs.Math.Seq.{take-length}
use Rattle.std.proofs.lemmas.Grind.{common_steps}
use Rattle.lease_core.specs.Run.{answers_along, opening}
use Rattle.lease_core.specs.Text.{answer_text, text_of}
use Rattle.lease_core.specs.declared.answering.LeaseAnswer.TheVariants as told
use Rattle.outside.proofs.FaultsLemmas.{steady_then}
use Rattle.fusee_top.proofs.LeaseLemmas.{Stops-at, appends-next, run_after-next, run_text-end}
use Rattle.script_run.proofs.WrittenLemmas.{writes_then}
use Rattle.fusee_top.proofs.leases.write_answers.Goals as goal

pub returns-in-Err-clause-written : goal.returns-in-Err-clause-written
returns-in-Err-clause-written g c =
    Stops-at _ _ _ _ _ _ c.in-Err.why c.args.terms c.loop-line.run c.args.lines.now c.loop-line.line-index _ c.loop-line-test.true c.loop-line.invariant.run
    c.loop-line.invariant.written c.loop-line.invariant.later c.in-Err.ensures.written

pub loop-line-preserved : goal.loop-line-preserved
loop-line-preserved g c = record {
  run = run_after-next _ _ _ _ _ _ c.loop-line-test.true c.loop-line.invariant.run c.in_default.ensures.after;
  written = appends-next _ _ _ _ _ _ _ _ c.loop-line-test.true c.loop-line.invariant.run c.loop-line.invariant.written c.in_default.ensures.written;
  later = omega (arith, c.loop-line.invariant.later, c.in_default.ensures.later);
  steady = steady_then _ _ _ c.loop-line.invariant.steady c.in_default.ensures.steady;
}

pub returns-clause-written : goal.returns-clause-written
returns-clause-written g c =
    let lines = c.args.lines.now in
    let whole : take c.loop-line.line-index lines ≡ lines = ap (λ n. take n lines) (grind (arith, common_steps)) ∙ take-length lines in
    let past = rw whole at c.loop-line.invariant.written in
    rw (run_text-end c.args.terms lines)
    (writes_then g.K.Sink.held g.K.Sink.faults c.args.sink.now c.loop-line.sink c.write_answer.new.sink c.write_answer.result
    (text_of (answers_along (opening c.args.terms) lines)) (answer_text told.End) past c.loop-line.invariant.later c.write_answer.ensures.written)
