use Rattle.std.proofs.Common.{◌+◌, ◌-◌, ◌^◌, sym, ap, ◌∙◌, arith}
use Rattle.sim_meaning.proofs.CountLemmas.{recovers-within}
use Rattle.sim_meaning.proofs.RunLemmas.{recovers-run}
use Rattle.sim_meaning.specs.Driver.{clients_of, recovers}
use Rattle.sim_run.proofs.CourseLemmas.{goes-events, recover-events, recovers-left, recovers-none, recovers-one, with_counted}
use Rattle.sim_run.specs.Course.{course_of}
use Rattle.sim_run.proofs.driving.recover_each.Goals as goal

pub returns-then-not-awaits : goal.returns-then-not-awaits
returns-then-not-awaits c = sym (recovers-none (clients_of c.args.numbers.now) (course_of c.args.simulator.now) (c.awaits.ensures c.if-not-awaits.true))

pub loop-client-preserved : goal.loop-client-preserved
loop-client-preserved c =
    let clients = c.args.numbers.now.clients in
    let client = c.loop-client.client in
    let before = course_of c.loop-client.simulator in
    let now = course_of c.recover.new.simulator in
    let more = goes-events before now (recovers client before.driver) (2 ^ 32 + 1) (recovers-run client before.driver) (recovers-within client before.driver) c.in_ok-recover.ensures in
    record {
      course = c.loop-client.invariant.course
          ∙ recovers-one before now client (clients + 1 - client) (clients + 1 - (client + 1)) (omega (arith, c.loop-client-test.true)) (omega arith) c.in_ok-recover.ensures;
      events = recover-events c.args.simulator.now.counted.world.events client before.driver.world.events now.driver.world.events c.loop-client.auto.client c.loop-client.invariant.events more;
    }

pub returns : goal.returns
returns c =
    let clients = c.args.numbers.now.clients in
    let before = course_of c.loop-client.simulator in
    ap (with_counted before) c.look_for_stopped.ensures
    ∙ sym (c.loop-client.invariant.course ∙ recovers-left before c.loop-client.client (clients + 1 - c.loop-client.client) (omega (arith, c.loop-client-test.false)))
