use Rattle.std.proofs.Common.{◌≡◌, ap, false, map, refl, subst, sym, true, ◌∙◌}
use Rattle.std.specs.Option.{option_map_or}
use Rattle.std.specs.Prelude.{is_some, IfOk}
use Rattle.machine_world.specs.Events.{acts, seen_by}
use Rattle.machine_world.specs.declared.events.Event.TheVariants as event
use Rattle.machine_world.specs.declared.outcomes.Actor.TheVariants as actor
use Rattle.machine_world.specs.declared.outcomes.Happened.TheVariants as happened
use Rattle.world_core.specs.Told.{task_in}
use Rattle.script_run.specs.Turns.{subject_in}
use Rattle.script_run.specs.Written.{Writes}
use Rattle.script_run.specs.declared.verbs.Taker.TheVariants as taker
use Rattle.script_text.specs.OutputText.{text_of}
use Rattle.verb_history.specs.Moments.{moment_of}
use Rattle.script_run.proofs.TurnLemmas.{turn-lines, turn-told}
use Rattle.script_run.proofs.verbs.take_shown.Goals as goal

pub returns-in-Ok-clause-written : goal.returns-in-Ok-clause-written
returns-in-Ok-clause-written g c =
    let client = c.args.client in
    let taken = c.in-Ok.taken in
    let came = happened.Stepped (seen_by (actor.Client client) taken.verb taken.answer) taken.step in
    let same = turn-lines (taker.Client client) true c.args.world.now c.take.new.self (event.Step client) (subject_in (task_in c.args.world.now.master.task)) came (map moment_of c.moments.result.now)
    refl c.requires.lawful c.in-Ok.ensures.taken (c.in-Ok.ensures.world ∙ sym (ap (λ reason. option_map_or (λ r. c.args.world.now) reason (acts false c.args.world.now client)) c.requires.lawful)) refl c.moments.ensures in
    subst (λ lines. Writes g.K.Sink.held g.K.Sink.faults c.args.sink.now c.write_taken.new.sink c.write_taken.result (text_of lines)) same c.write_taken.ensures.written

pub returns-in-Ok-clause-ends : goal.returns-in-Ok-clause-ends
returns-in-Ok-clause-ends g c =
    let client = c.args.client in
    let taken = c.in-Ok.taken in
    let came = happened.Stepped (seen_by (actor.Client client) taken.verb taken.answer) taken.step in
    let same = turn-told (taker.Client client) c.args.world.now c.take.new.self (event.Step client) (subject_in (task_in c.args.world.now.master.task)) came (map moment_of c.moments.result.now)
    refl c.requires.lawful c.in-Ok.ensures.taken (c.in-Ok.ensures.world ∙ sym (ap (λ reason. option_map_or (λ r. c.args.world.now) reason (acts false c.args.world.now client)) c.requires.lawful)) refl c.moments.ensures in
    subst (λ told. IfOk c.write_taken.result (λ ends. ends ≡ is_some told)) same c.write_taken.ensures.told
