use Rattle.std.proofs.Common.{false, [], ◌∷◌, refl, sym, ◌∙◌, arith}
use Rattle.machine_world.specs.declared.events.Event.TheVariants as event
use Rattle.script_meaning.specs.Lines.{meaning}
use Rattle.script_text.specs.declared.out_lines.OutLine.TheVariants as out
use Rattle.script_text.specs.declared.scripts.Line.TheVariants as line
use Rattle.sim_meaning.proofs.CountLemmas.{stepped-within}
use Rattle.sim_meaning.proofs.RunLemmas.{carried}
use Rattle.sim_meaning.specs.Driver.{carries_out}
use Rattle.sim_run.proofs.CourseLemmas.{counts-event, goes-carried, goes-events, goes-followed, on-ok, with_counted}
use Rattle.sim_run.specs.Course.{course_of}
use Rattle.sim_run.proofs.driving.step_and_stop.Goals as goal

pub stop-requires : goal.stop-requires
stop-requires c =
    let before = course_of c.args.simulator.now in
    let stepping = line.Step c.args.client c.args.verbs in
    let stepped = goes-carried before c.take_up_to.new.self (meaning false before.driver.world stepping) c.in_ok-take_up_to.ensures in
    let more = goes-events before (with_counted before c.take_up_to.new.self) (carries_out before.driver stepping) 65 (carried before.driver stepping)
    (stepped-within before.driver c.args.client c.args.verbs 64 c.requires.few) stepped in
    omega (arith, more, c.requires.room)

pub returns : goal.returns
returns c =
    let before = course_of c.args.simulator.now in
    let stepping = line.Step c.args.client c.args.verbs in
    let stopping = line.Stop c.args.client in
    let middle = with_counted before c.take_up_to.new.self in
    let stepped = goes-carried before c.take_up_to.new.self (meaning false before.driver.world stepping) c.in_ok-take_up_to.ensures in
    on-ok c.stop.result
    (λ is.
    goes-carried middle c.stop.new.self (meaning false middle.driver.world stopping) (is ∙ sym (counts-event c.take_up_to.new.self (event.Stop c.args.client) (out.Stopped c.args.client ∷ []) refl))
    ∙ sym (goes-followed before middle (carries_out before.driver stepping) (λ now. carries_out now stopping) (carried before.driver stepping) stepped))
    c.stop.ensures
