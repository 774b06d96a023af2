use Rattle.std.proofs.Common.{suc, take, drop, subst}
use Rattle.std.specs.List.{flat_map}
use Rattle.std.specs.Global.{Vec}
use Rattle.std.proofs.Common.{ℕ}
use Rattle.script_run.specs.Written.{Stops}
use Rattle.script_run.proofs.ListLemmas.{flat_map-cut}
use Rattle.script_run.proofs.WrittenLemmas.{stops_then}
use Rattle.sim_run.proofs.summary.write_texts.Goals as goal

pub returns-in-Err-clause-written : goal.returns-in-Err-clause-written
returns-in-Err-clause-written g c =
    let texts = c.args.texts.now in
    let i = c.loop-text.text-index in
    rw (flat_map-cut (λ (text : Vec ℕ). text.items) texts i c.text-item.result c.loop-text-test.true c.text-item.is)
    (stops_then (g.K.Sink.held c.args.sink.now) (g.K.Sink.held c.loop-text.sink) (g.K.Sink.held c.write_all.new.sink) _ _ _ c.in-Err.why
    (flat_map (λ (text : Vec ℕ). text.items) (take i texts)) c.text-item.result.items (flat_map (λ (text : Vec ℕ). text.items) (drop (suc i) texts)) c.loop-text.invariant.written c.loop-text.invariant.later (subst (λ text. Stops (g.K.Sink.held c.loop-text.sink) (g.K.Sink.held c.write_all.new.sink) (g.K.Sink.faults c.loop-text.sink) (g.K.Sink.faults c.write_all.new.sink) c.in-Err.why text) c.deref.ensures.value c.in-Err.ensures.written))
