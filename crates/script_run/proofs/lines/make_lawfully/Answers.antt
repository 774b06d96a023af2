use Rattle.std.proofs.Common.{sym, subst}
use Rattle.machine_world.specs.declared.events.Event.TheVariants as event
use Rattle.script_meaning.specs.Lines.{calls, most_verbs, takes_up_to}
use Rattle.script_run.specs.Written.{Stops, Writes}
use Rattle.script_text.specs.OutputText.{text_of}
use Rattle.trace_audit.specs.Told.{call_of}
use Rattle.script_run.proofs.LeftLemmas.{stops_in}
use Rattle.script_run.proofs.LineLemmas.{followed-text}
use Rattle.script_run.proofs.TakesLemmas.{text_of-append}
use Rattle.script_run.proofs.WrittenLemmas.{writes_then}
use Rattle.script_run.proofs.lines.make_lawfully.Goals as goal

pub returns-in-Ok-clause-written : goal.returns-in-Ok-clause-written
returns-in-Ok-clause-written g c =
    let first = calls c.args.world.now c.args.client (call_of c.args.call) in
    let rest = takes_up_to most_verbs c.args.shows (event.Step c.args.client) in
    let same = followed-text first rest c.invoke.new.world c.in-Ok.ensures.world in
    subst (Writes g.K.Sink.held g.K.Sink.faults c.args.sink.now c.take_up_to.new.sink c.take_up_to.result) (sym same)
    (writes_then g.K.Sink.held g.K.Sink.faults c.args.sink.now c.invoke.new.sink c.take_up_to.new.sink c.take_up_to.result (text_of first.lines) (text_of (rest c.invoke.new.world).lines)
    c.in-Ok.ensures.written c.in-Ok.ensures.later c.take_up_to.ensures.written)

pub returns-in-Err-clause-written : goal.returns-in-Err-clause-written
returns-in-Err-clause-written g c =
    let first = calls c.args.world.now c.args.client (call_of c.args.call) in
    let rest = takes_up_to most_verbs c.args.shows (event.Step c.args.client) first.world in
    subst (Stops _ _ _ _ c.in-Err.why) (sym (text_of-append first.lines rest.lines)) (stops_in _ _ _ _ c.in-Err.why (text_of first.lines) (text_of rest.lines) c.in-Err.ensures.written)
