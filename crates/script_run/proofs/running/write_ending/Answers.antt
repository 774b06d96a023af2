use Rattle.std.proofs.Common.{[], ◌∷◌, ◌++◌, sym, ap, subst, ◌∙◌}
use Rattle.script_meaning.specs.Shown.{history_lines}
use Rattle.script_run.specs.Written.{Stops, Writes}
use Rattle.script_text.specs.OutputText.{line_text, text_of}
use Rattle.script_text.specs.declared.out_lines.OutLine.TheVariants as out
use Rattle.script_run.proofs.LeftLemmas.{stops_in}
use Rattle.script_run.proofs.TakesLemmas.{text_of-append, text_of-one}
use Rattle.script_run.proofs.WrittenLemmas.{writes_then}
use Rattle.script_run.proofs.running.write_ending.Goals as goal

pub returns-in-Ok-clause-written : goal.returns-in-Ok-clause-written
returns-in-Ok-clause-written g c =
    let lines = history_lines c.args.world.now in
    let same = text_of-append lines (out.End ∷ []) ∙ ap (λ t. text_of lines ++ t) (text_of-one out.End) in
    subst (Writes g.K.Sink.held g.K.Sink.faults c.args.sink.now c.write_line.new.sink c.write_line.result) (sym same)
    (writes_then g.K.Sink.held g.K.Sink.faults c.args.sink.now c.write_history.new.sink c.write_line.new.sink c.write_line.result (text_of lines) (line_text out.End)
    c.in-Ok.ensures.written c.in-Ok.ensures.later c.write_line.ensures.written)

pub returns-in-Err-clause-written : goal.returns-in-Err-clause-written
returns-in-Err-clause-written g c =
    let lines = history_lines c.args.world.now in
    let same = text_of-append lines (out.End ∷ []) in
    subst (Stops _ _ _ _ c.in-Err.why) (sym same) (stops_in _ _ _ _ c.in-Err.why (text_of lines) (text_of (out.End ∷ [])) c.in-Err.ensures.written)
