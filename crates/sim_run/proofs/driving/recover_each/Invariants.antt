use Rattle.std.proofs.Common.{◌≡◌, ◌+◌, ◌*◌, ◌-◌, ◌^◌, ◌≤◌}
use Rattle.std.specs.List.{range_with_len}
use Rattle.sim_meaning.specs.Driver.{clients_of, recovers_each}
use Rattle.sim_run.specs.Course.{course_of, goes}
use Rattle.sim_run.proofs.driving.recover_each.Given as goal

abbrev pub invariant-loop-client : goal.invariant-loop-client
invariant-loop-client l = record {
  course : goes (course_of l.fn.simulator) (recovers_each (clients_of l.numbers) (course_of l.fn.simulator).driver)
      ≡ goes (course_of l.simulator) (recovers_each (range_with_len l.client (l.numbers.clients + 1 - l.client)) (course_of l.simulator).driver);
  events : l.simulator.counted.world.events ≤ l.fn.simulator.counted.world.events + (l.client - 1) * (2 ^ 32 + 1);
}
