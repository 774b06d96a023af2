use Rattle.std.proofs.Common.{arith}
use Rattle.machine_world.specs.Ledger.{entry_of}
use Rattle.outside.proofs.FaultsLemmas.{steady_then}
use Rattle.script_meaning.specs.Shown.{entry_line}
use Rattle.script_text.specs.OutputText.{line_text}
use Rattle.verb_history.specs.Points.{entered_of}
use Rattle.script_run.proofs.DumpLemmas.{entries-step}
use Rattle.script_run.proofs.LeftLemmas.{left_more, left_stops}
use Rattle.script_run.proofs.printing.write_entries.Goals as goal

pub returns-in-Err-clause-written : goal.returns-in-Err-clause-written
returns-in-Err-clause-written g c =
    let order = c.args.order.now in
    let world = c.args.world.now in
    let one = c.one-item.result in
    let cut = entries-step (λ other. entry_line (entry_of world (entered_of other.now))) order c.loop-one.one-index one c.loop-one-test.true c.one-item.is in
    left_stops _ _ _ _ _ _ c.in-Err.why _ _ (line_text (entry_line (entry_of world (entered_of one.now)))) _ cut c.loop-one.invariant.left c.loop-one.invariant.later c.in-Err.ensures.written

pub loop-one-preserved : goal.loop-one-preserved
loop-one-preserved g c =
    let order = c.args.order.now in
    let world = c.args.world.now in
    let one = c.one-item.result in
    let cut = entries-step (λ other. entry_line (entry_of world (entered_of other.now))) order c.loop-one.one-index one c.loop-one-test.true c.one-item.is in
    record {
      left = left_more _ _ _ _ _ (line_text (entry_line (entry_of world (entered_of one.now)))) _ cut c.loop-one.invariant.left c.in-Ok.ensures.written;
      later = omega (arith, c.loop-one.invariant.later, c.in-Ok.ensures.later);
      steady = steady_then _ _ _ c.loop-one.invariant.steady c.in-Ok.ensures.steady;
    }
