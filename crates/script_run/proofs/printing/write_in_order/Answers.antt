use Rattle.std.proofs.Common.{length, map}
use Rattle.machine_world.specs.Ledger.{entry_of}
use Rattle.script_meaning.specs.Shown.{entry_line}
use Rattle.script_text.specs.OutputText.{line_text, text_of}
use Rattle.script_text.specs.declared.out_lines.OutLine.TheVariants as out
use Rattle.verb_history.specs.Points.{entered_of}
use Rattle.script_run.proofs.LeftLemmas.{stops_in}
use Rattle.script_run.proofs.WrittenLemmas.{writes_then}
use Rattle.script_run.proofs.printing.write_in_order.Goals as goal

pub returns-in-Ok-clause-written : goal.returns-in-Ok-clause-written
returns-in-Ok-clause-written g c =
    writes_then g.K.Sink.held g.K.Sink.faults c.args.sink.now c.write_history_count.new.sink c.write_entries.new.sink c.write_entries.result
    (line_text (out.History (length c.args.order.now)))
    (text_of (map (λ one. entry_line (entry_of c.args.world.now (entered_of one.now))) c.args.order.now))
    c.in-Ok.ensures.written c.in-Ok.ensures.later c.write_entries.ensures.written

pub returns-in-Err-clause-written : goal.returns-in-Err-clause-written
returns-in-Err-clause-written g c =
    stops_in _ _ _ _ c.in-Err.why (line_text (out.History (length c.args.order.now)))
    (text_of (map (λ one. entry_line (entry_of c.args.world.now (entered_of one.now))) c.args.order.now)) c.in-Err.ensures.written
