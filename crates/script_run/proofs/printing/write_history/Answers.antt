use Rattle.std.proofs.Common.{map, ap, subst, ◌∙◌}
use Rattle.script_run.specs.Written.{Writes}
use Rattle.verb_history.specs.Points.{entered_of}
use Rattle.script_run.proofs.DumpLemmas.{history-text}
use Rattle.script_run.proofs.printing.write_history.Goals as goal

pub returns-clause-written : goal.returns-clause-written
returns-clause-written g c =
    let same = ap (map (λ one. entered_of one.now)) c.as_slice.ensures.value ∙ c.in_ok-order.ensures in
    subst (Writes g.K.Sink.held g.K.Sink.faults c.args.sink.now c.write_in_order.new.sink c.write_in_order.result)
    (history-text c.args.world.now (λ one. entered_of one.now) c.as_slice.result.now same) c.write_in_order.ensures.written
