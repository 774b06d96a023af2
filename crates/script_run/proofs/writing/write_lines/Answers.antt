use Rattle.std.proofs.Common.{suc, take, drop}
use Rattle.script_text.specs.OutputText.{line_text, text_of}
use Rattle.script_run.proofs.ListLemmas.{flat_map-cut}
use Rattle.script_run.proofs.WrittenLemmas.{stops_then}
use Rattle.script_run.proofs.writing.write_lines.Goals as goal

pub returns-in-Err-clause-written : goal.returns-in-Err-clause-written
returns-in-Err-clause-written g c =
    let lines = c.args.lines.now in
    let i = c.loop-line.line-index in
    rw (flat_map-cut line_text lines i c.line-item.result c.loop-line-test.true c.line-item.is)
    (stops_then (g.K.Sink.held c.args.sink.now) (g.K.Sink.held c.loop-line.sink) (g.K.Sink.held c.write_line.new.sink) _ _ _ c.in-Err.why
    (text_of (take i lines)) (line_text c.line-item.result) (text_of (drop (suc i) lines)) c.loop-line.invariant.written c.loop-line.invariant.later c.in-Err.ensures.written)
