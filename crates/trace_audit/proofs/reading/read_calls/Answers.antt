use Rattle.std.proofs.Common.{◌≡◌, length, arith, below_more}
use Rattle.std.proofs.lemmas.Bool.Decides.{when_true}
use Rattle.std.proofs.lemmas.List.{take_all}
use Rattle.trace_audit.proofs.ReadingLemmas.{trace_of-more, FitsAt-here, Fits-within}
use Rattle.trace_audit.proofs.reading.read_calls.Goals as goal

pub loop-i-preserved : goal.loop-i-preserved
loop-i-preserved c =
    let taken = when_true _ _ c.if-not-branch.false (c.in_ok-take.ensures.told _ c.loop-i.invariant.told) in
    record {
      told = rw (trace_of-more c.args.lines.now c.loop-i.i c.index-lines-i.result c.loop-i-test.true c.index-lines-i.is) taken.1;
      fit = below_more _ _ c.loop-i.invariant.fit (FitsAt-here c.args.lines.now c.loop-i.i c.index-lines-i.result c.loop-i-test.true c.index-lines-i.is taken.0);
      moments = omega (arith, c.in_ok-take.ensures.moments);
    }

pub returns : goal.returns
returns c =
    let all : length c.args.lines.now ≡ c.loop-i.i = omega arith in
    (Fits-within c.args.lines.now c.loop-i.i all c.loop-i.invariant.fit, rw (take_all c.loop-i.i c.args.lines.now (omega arith)) at c.loop-i.invariant.told)
