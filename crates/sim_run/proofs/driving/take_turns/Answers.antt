use Rattle.std.proofs.Common.{◌≡◌, ◌+◌, ◌-◌, refl, sym, ap, ◌∙◌, arith}
use Rattle.sim_meaning.proofs.RoomLemmas.{most_events-few, turn-counted}
use Rattle.sim_meaning.specs.Counts.{events_of_turn}
use Rattle.sim_meaning.specs.Driver.{most_turns}
use Rattle.sim_run.proofs.CourseLemmas.{turn-events, turn-room, turns-none, turns-one, turns-over}
use Rattle.sim_run.specs.Course.{Course, course_of}
use Rattle.sim_run.proofs.driving.take_turns.Goals as goal

pub loop-taken-init : goal.loop-taken-init
loop-taken-init c =
    let all : most_turns c.args.work.now.numbers - 0 ≡ most_turns c.args.work.now.numbers = omega arith in
    record { course = rw all refl; events = omega (arith, c.requires.room) }

pub take_turn-requires-clause-room : goal.take_turn-requires-clause-room
take_turn-requires-clause-room c =
    let numbers = c.args.work.now.numbers in
    turn-room numbers.clients c.loop-taken.taken (most_turns numbers) (events_of_turn numbers) c.loop-taken.simulator.counted.world.events
    (most_events-few numbers c.requires.planned.small.few c.requires.planned.small.calls)
    (omega (arith, c.loop-taken-test.true, c.most_turns-taken-end.ensures)) c.loop-taken.invariant.events

pub returns-then-is_over : goal.returns-then-is_over
returns-then-is_over c =
    let numbers = c.args.work.now.numbers in
    sym (c.loop-taken.invariant.course
    ∙ turns-over numbers (course_of c.loop-taken.simulator) (most_turns numbers - c.loop-taken.taken) (sym c.is_over.ensures ∙ c.if-is_over.true))

pub loop-taken-preserved : goal.loop-taken-preserved
loop-taken-preserved c =
    let numbers = c.args.work.now.numbers in
    let before = course_of c.loop-taken.simulator in
    let taken = c.loop-taken.taken in
    let now = c.in_ok-take_turn.ensures in
    let more = turn-counted numbers before.driver in
    let same = ap (λ (course : Course). course.driver.world.events) now in
    record {
      course = c.loop-taken.invariant.course
          ∙ turns-one numbers before (course_of c.take_turn.new.simulator) (most_turns numbers - taken) (most_turns numbers - (taken + 1))
          (omega (arith, c.loop-taken-test.true, c.most_turns-taken-end.ensures)) (omega arith) (sym c.is_over.ensures ∙ c.if-is_over.false) now;
      events = turn-events numbers.clients taken (events_of_turn numbers) before.driver.world.events (course_of c.take_turn.new.simulator).driver.world.events
          (omega (arith, more, same)) c.loop-taken.invariant.events;
    }

pub returns : goal.returns
returns c =
    let numbers = c.args.work.now.numbers in
    sym (c.loop-taken.invariant.course
    ∙ turns-none numbers (course_of c.loop-taken.simulator) (most_turns numbers - c.loop-taken.taken) (omega (arith, c.loop-taken-test.false, c.most_turns-taken-end.ensures)))
