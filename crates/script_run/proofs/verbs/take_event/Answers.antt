use Rattle.std.proofs.Common.{◌≡◌, ap, map, subst, ◌∙◌}
use Rattle.std.specs.Prelude.{is_some, IfOk}
use Rattle.script_run.specs.Turns.{subject_in}
use Rattle.script_run.specs.Written.{Writes}
use Rattle.script_text.specs.OutputText.{text_of}
use Rattle.verb_history.specs.Moments.{moment_of}
use Rattle.script_run.proofs.TurnLemmas.{turn-lines, turn-told}
use Rattle.script_run.proofs.verbs.take_event.Goals as goal

pub returns-in-Ok-clause-written : goal.returns-in-Ok-clause-written
returns-in-Ok-clause-written g c =
    let same = turn-lines c.args.taker c.args.shows c.args.world.now c.advance.new.world c.event.result c.subject_of-subject.result c.in-Ok.happened (map moment_of c.moments.result.now)
    c.event.ensures c.requires.lawful c.in-Ok.ensures.happened c.in-Ok.ensures.world (c.subject_of-subject.ensures ∙ ap subject_in c.task.ensures) c.moments.ensures in
    subst (λ lines. Writes g.K.Sink.held g.K.Sink.faults c.args.sink.now c.write_turn.new.sink c.write_turn.result (text_of lines)) same c.write_turn.ensures.written

pub returns-in-Ok-clause-ends : goal.returns-in-Ok-clause-ends
returns-in-Ok-clause-ends g c =
    let same = turn-told c.args.taker c.args.world.now c.advance.new.world c.event.result c.subject_of-subject.result c.in-Ok.happened (map moment_of c.moments.result.now)
    c.event.ensures c.requires.lawful c.in-Ok.ensures.happened c.in-Ok.ensures.world (c.subject_of-subject.ensures ∙ ap subject_in c.task.ensures) c.moments.ensures in
    subst (λ told. IfOk c.write_turn.result (λ ends. ends ≡ is_some told)) same c.write_turn.ensures.told
