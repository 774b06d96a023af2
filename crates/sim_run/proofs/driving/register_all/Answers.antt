use Rattle.std.proofs.Common.{◌≡◌, ◌+◌, ◌-◌, refl, sym, ap, ◌∙◌, arith}
use Rattle.machine_world.specs.declared.events.Event.TheVariants as event
use Rattle.sim_meaning.proofs.RoomLemmas.{happens-counted}
use Rattle.sim_run.proofs.CourseLemmas.{registers-none, registers-one}
use Rattle.sim_run.specs.Counted.{Counted}
use Rattle.sim_run.specs.Course.{course_of}
use Rattle.sim_run.proofs.driving.register_all.Goals as goal

pub loop-registered-init : goal.loop-registered-init
loop-registered-init c =
    let all : c.args.numbers.now.clients - 0 ≡ c.args.numbers.now.clients = omega arith in
    record { course = rw all refl; events = omega (arith, c.requires.begins) }

pub register-requires : goal.register-requires
register-requires c = omega (arith, c.loop-registered.invariant.events, c.loop-registered-test.true, c.requires.small.few)

pub loop-registered-preserved : goal.loop-registered-preserved
loop-registered-preserved c =
    let simulator = c.loop-registered.simulator in
    let clients = c.args.numbers.now.clients in
    let registered = c.loop-registered.registered in
    let now = c.in_ok-register.ensures in
    record {
      course = c.loop-registered.invariant.course
          ∙ registers-one (course_of simulator) c.register.new.self (clients - registered) (clients - (registered + 1)) (omega arith) (omega arith) now;
      events = omega (arith, c.loop-registered.invariant.events, ap (λ (counted : Counted). counted.world.events) now, happens-counted simulator.counted.world event.Register);
    }

pub returns : goal.returns
returns c =
    sym (c.loop-registered.invariant.course
    ∙ registers-none (course_of c.loop-registered.simulator) (c.args.numbers.now.clients - c.loop-registered.registered) (omega (arith, c.loop-registered-test.false)))
