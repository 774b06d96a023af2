use Rattle.std.proofs.Common.{◌≡◌, Ok, ap, sym, ◌∙◌}
use Rattle.lease_core.specs.Grammar.{events_from}
use Rattle.text_lines.specs.Lines.{lines_of}
use Rattle.fusee_top.proofs.WrittenLemmas.{Concludes-written}
use Rattle.fusee_top.proofs.leases.run_leases.Goals as goal

pub returns-in-Ok-clause-ends : goal.returns-in-Ok-clause-ends
returns-in-Ok-clause-ends g c =
    let read : events_from 1 (lines_of c.args.text.now) ≡ Ok c.deref.result.now = c.in-Ok.ensures ∙ ap Ok (sym c.deref.ensures.value) in
    rw read (Concludes-written g.K.Sink.held g.K.Sink.faults c.args.sink.now c.write_answers.new.sink c.write_answers.result _ 0 c.ended.result c.write_answers.ensures.written c.ended.ensures)
