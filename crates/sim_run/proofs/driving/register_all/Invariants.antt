use Rattle.std.proofs.Common.{◌≡◌, ◌-◌, ◌≤◌}
use Rattle.sim_meaning.specs.Driver.{registers}
use Rattle.sim_run.specs.Course.{course_of, goes}
use Rattle.sim_run.proofs.driving.register_all.Given as goal

abbrev pub invariant-loop-registered : goal.invariant-loop-registered
invariant-loop-registered l = record {
  course : goes (course_of l.fn.simulator) (registers l.numbers.clients (course_of l.fn.simulator).driver)
      ≡ goes (course_of l.simulator) (registers (l.numbers.clients - l.registered) (course_of l.simulator).driver);
  events : l.simulator.counted.world.events ≤ l.registered;
}
