use Rattle.std.proofs.Common.{subst, sym, arith}
use Rattle.std.proofs.lemmas.Result.{on_ok_weaker}
use Rattle.script_meaning.specs.Lines.{meaning}
use Rattle.script_run.specs.Written.{Writes}
use Rattle.script_text.specs.OutputText.{text_of}
use Rattle.script_run.proofs.lines.run_line.Goals as goal

pub returns-in-Fill-clause-few : goal.returns-in-Fill-clause-few
returns-in-Fill-clause-few g c = on_ok_weaker c.happen-in-Fill.result (λ few. omega (arith, few)) c.happen-in-Fill.ensures.few

pub returns-in-TaskSettle-clause-written : goal.returns-in-TaskSettle-clause-written
returns-in-TaskSettle-clause-written g c =
    subst (λ named. Writes g.K.Sink.held g.K.Sink.faults c.args.sink.now c.happen-in-TaskSettle.new.sink c.happen-in-TaskSettle.result (text_of (meaning c.args.shows c.args.world.now named).lines))
    (sym c.in-TaskSettle.is) c.happen-in-TaskSettle.ensures.written

pub returns-in-TaskRecover-clause-few : goal.returns-in-TaskRecover-clause-few
returns-in-TaskRecover-clause-few g c = on_ok_weaker c.happen-in-TaskRecover.result (λ few. omega (arith, few)) c.happen-in-TaskRecover.ensures.few

pub returns-in-TaskJoin-clause-few : goal.returns-in-TaskJoin-clause-few
returns-in-TaskJoin-clause-few g c = on_ok_weaker c.happen-in-TaskJoin.result (λ few. omega (arith, few)) c.happen-in-TaskJoin.ensures.few

pub returns-in-Count-clause-written : goal.returns-in-Count-clause-written
returns-in-Count-clause-written g c =
    subst (λ named. Writes g.K.Sink.held g.K.Sink.faults c.args.sink.now c.write_division.new.sink c.write_division.result (text_of (meaning c.args.shows c.args.world.now named).lines))
    (sym c.in-Count.is) c.write_division.ensures.written
