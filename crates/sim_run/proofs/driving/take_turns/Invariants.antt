use Rattle.std.proofs.Common.{◌≡◌, ◌+◌, ◌*◌, ◌-◌, ◌≤◌}
use Rattle.sim_meaning.specs.Counts.{events_of_turn}
use Rattle.sim_meaning.specs.Driver.{most_turns, turns}
use Rattle.sim_run.specs.Course.{course_of, goes}
use Rattle.sim_run.proofs.driving.take_turns.Given as goal

abbrev pub invariant-loop-taken : goal.invariant-loop-taken
invariant-loop-taken l = record {
  course : goes (course_of l.fn.simulator) (turns l.work.numbers (most_turns l.work.numbers) (course_of l.fn.simulator).driver)
      ≡ goes (course_of l.simulator) (turns l.work.numbers (most_turns l.work.numbers - l.taken) (course_of l.simulator).driver);
  events : l.simulator.counted.world.events ≤ l.work.numbers.clients + l.taken * events_of_turn l.work.numbers;
}
