use Rattle.std.proofs.Common.{map}
use Rattle.machine_world.specs.Events.{seen_by}
use Rattle.machine_world.specs.declared.outcomes.Actor.TheVariants.{Client}
use Rattle.script_meaning.specs.Shown.{shown_verb}
use Rattle.script_run.specs.Turns.{or_nothing, told_of_step}
use Rattle.script_text.specs.OutputText.{line_text, text_of}
use Rattle.verb_history.specs.Moments.{moment_of}
use Rattle.script_run.proofs.WrittenLemmas.{stops_before, writes_then}
use Rattle.script_run.proofs.verbs.write_taken.Goals as goal

pub returns-in-Ok-clause-written : goal.returns-in-Ok-clause-written
returns-in-Ok-clause-written g c =
    let verb = line_text (shown_verb (seen_by (Client c.args.client) c.args.taken.verb c.args.taken.answer)) in
    let told = text_of (or_nothing (told_of_step c.args.client c.args.taken.step (map moment_of c.args.moments.now))) in
    writes_then g.K.Sink.held g.K.Sink.faults c.args.sink.now c.write_seen.new.sink c.write_step.new.sink c.write_step.result verb told
    c.in-Ok.ensures.written c.in-Ok.ensures.later c.write_step.ensures.written

pub returns-in-Err-clause-written : goal.returns-in-Err-clause-written
returns-in-Err-clause-written g c =
    let verb = line_text (shown_verb (seen_by (Client c.args.client) c.args.taken.verb c.args.taken.answer)) in
    let told = text_of (or_nothing (told_of_step c.args.client c.args.taken.step (map moment_of c.args.moments.now))) in
    stops_before _ _ _ _ c.in-Err.why verb told c.in-Err.ensures.written
