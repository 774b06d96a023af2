use Rattle.sim_run.proofs.CourseLemmas.{course_from, registered-room, simulated-pieces, started}
use Rattle.sim_run.specs.Course.{course_of}
use Rattle.sim_run.proofs.driving.simulated_on.Goals as goal

pub take_turns-requires-clause-room : goal.take_turns-requires-clause-room
take_turns-requires-clause-room c =
    registered-room c.args.shape c.args.work.now.numbers (course_from c.in_ok-new.field-0 c.turns_of.result) (course_of c.register_all.new.simulator)
    (started c.args.shape c.args.work.now.numbers c.in_ok-new.field-0 c.turns_of.result c.in_ok-new.ensures c.turns_of.ensures) c.in_ok-register_all.ensures

pub returns : goal.returns
returns c =
    simulated-pieces c.args.shape c.args.work.now.numbers (course_from c.in_ok-new.field-0 c.turns_of.result) (course_of c.register_all.new.simulator) (course_of c.take_turns.new.simulator)
    (started c.args.shape c.args.work.now.numbers c.in_ok-new.field-0 c.turns_of.result c.in_ok-new.ensures c.turns_of.ensures) c.in_ok-register_all.ensures c.in_ok-take_turns.ensures
