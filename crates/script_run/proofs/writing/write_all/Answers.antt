use Rattle.std.proofs.Common.{arith}
use Rattle.std.proofs.lemmas.List.{take_rest}
use Rattle.std.proofs.Math.Seq.{take-add}
use Rattle.outside.proofs.AppendedLemmas.{appends_then}
use Rattle.outside.proofs.FaultsLemmas.{steady_then}
use Rattle.script_run.proofs.writing.write_all.Goals as goal

pub loop-at-preserved : goal.loop-at-preserved
loop-at-preserved g c =
    let now = c.in-Took.ensures in
    let piece = rw (take_rest c.args.bytes.now c.loop-at.at) at now.bytes in
    record {
      within = grind (arith, now.count);
      written = rw (take-add c.loop-at.at c.in-Took.count c.args.bytes.now) (appends_then _ _ _ _ _ c.loop-at.invariant.written piece);
      later = omega (arith, now.later, c.loop-at.invariant.later);
      steady = steady_then _ _ _ c.loop-at.invariant.steady now.steady;
    }
