use Rattle.std.proofs.Common.{arith}
use Rattle.sim_meaning.proofs.CountLemmas.{acts-within, loses_if_due-within}
use Rattle.sim_meaning.proofs.RunLemmas.{acts-run, loses_if_due-run}
use Rattle.sim_meaning.specs.Driver.{acts, loses_if_due}
use Rattle.sim_run.proofs.CourseLemmas.{drawn_from, goes-events, on-ok, turn-pieces}
use Rattle.sim_run.specs.Course.{course_of}
use Rattle.sim_run.proofs.driving.take_turn.Goals as goal

pub lose_if_due-requires-clause-room : goal.lose_if_due-requires-clause-room
lose_if_due-requires-clause-room c =
    let numbers = c.args.work.now.numbers in
    let start = drawn_from (course_of c.args.simulator.now) c.draw-word.new.self in
    let word = c.draw-word.result in
    let client = c.client_of-client.result in
    let acted = goes-events start (course_of c.act.new.simulator) (acts numbers word client start.driver) 67 (acts-run numbers word client start.driver) (acts-within numbers word client start.driver) c.in_ok-act.ensures in
    omega (arith, acted, c.requires.room)

pub manage-requires-clause-room : goal.manage-requires-clause-room
manage-requires-clause-room c =
    let numbers = c.args.work.now.numbers in
    let start = drawn_from (course_of c.args.simulator.now) c.draw-word.new.self in
    let word = c.draw-word.result in
    let client = c.client_of-client.result in
    let acted = goes-events start (course_of c.act.new.simulator) (acts numbers word client start.driver) 67 (acts-run numbers word client start.driver) (acts-within numbers word client start.driver) c.in_ok-act.ensures in
    let before = course_of c.act.new.simulator in
    let lost = goes-events before (course_of c.lose_if_due.new.simulator) (loses_if_due numbers before.driver) 1 (loses_if_due-run numbers before.driver) (loses_if_due-within numbers before.driver) c.in_ok-lose_if_due.ensures in
    omega (arith, acted, lost, c.requires.room)

pub returns : goal.returns
returns c =
    on-ok c.manage.result
    (λ is.
    turn-pieces c.args.work.now.numbers (course_of c.args.simulator.now) (course_of c.act.new.simulator) (course_of c.lose_if_due.new.simulator) (course_of c.manage.new.simulator)
    c.draw-word.result c.client_of-client.result c.draw-word.new.self c.draw-word.ensures c.client_of-client.ensures.named c.in_ok-act.ensures c.in_ok-lose_if_due.ensures is)
    c.manage.ensures
