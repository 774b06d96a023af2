use Rattle.std.proofs.Common.{map}
use Rattle.script_meaning.specs.Lines.{verb_lines}
use Rattle.script_run.specs.Turns.{or_nothing, told_by}
use Rattle.script_text.specs.OutputText.{text_of}
use Rattle.verb_history.specs.Moments.{moment_of}
use Rattle.script_run.proofs.TakesLemmas.{text_of-append}
use Rattle.script_run.proofs.WrittenLemmas.{writes_then}
use Rattle.script_run.proofs.verbs.write_turn.Goals as goal

pub returns-in-Ok-clause-written : goal.returns-in-Ok-clause-written
returns-in-Ok-clause-written g c =
    let verb = verb_lines c.args.shows c.args.happened in
    let told = or_nothing (told_by c.args.subject c.args.happened (map moment_of c.args.moments.now)) in
    rw (text_of-append verb told)
    (writes_then g.K.Sink.held g.K.Sink.faults c.args.sink.now c.write_verb.new.sink c.write_told_by.new.sink c.write_told_by.result (text_of verb) (text_of told)
    c.in-Ok.ensures.written c.in-Ok.ensures.later c.write_told_by.ensures.written)
