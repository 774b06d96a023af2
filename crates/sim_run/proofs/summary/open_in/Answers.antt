use Rattle.std.proofs.Common.{Bool, sym, ap, ◌∙◌, arith}
use Rattle.std.specs.Prelude.{count_by}
use Rattle.sim_meaning.specs.Summary.{is_open}
use Rattle.sim_run.proofs.CountLemmas.{count-map, count-more}
use Rattle.sim_run.proofs.SummaryLemmas.{taken-all}
use Rattle.verb_history.specs.declared.moments.Moment.{Moment}
use Rattle.verb_history.specs.Moments.{moment_of}
use Rattle.sim_run.proofs.summary.open_in.Goals as goal

pub loop-moment-preserved : goal.loop-moment-preserved
loop-moment-preserved c =
    let moments = c.moments-moments.result.now in
    let i = c.loop-moment.moment-index in
    let more = count-more (λ moment. is_open c.args.world.now (moment_of moment)) moments i c.moment-item.result c.loop-moment-test.true c.moment-item.is in
    record {
      open_now = omega (arith, c.loop-moment.invariant.open_now, c.open_at-open.ensures.count, more);
      few = omega (arith, c.loop-moment.invariant.few, c.open_at-open.ensures.few);
    }

pub returns : goal.returns
returns c =
    let moments = c.moments-moments.result.now in
    let test : Moment → Bool = λ moment. is_open c.args.world.now (moment_of moment) in
    c.loop-moment.invariant.open_now
    ∙ ap (count_by test) (taken-all moments c.loop-moment.moment-index (omega (arith, c.loop-moment-test.false)))
    ∙ sym (count-map (is_open c.args.world.now) moment_of moments)
    ∙ ap (count_by (is_open c.args.world.now)) c.moments-moments.ensures
