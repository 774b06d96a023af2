use Rattle.std.proofs.Common.{◌≡◌, ◌+◌, ◌-◌, ◌≤◌, None}
use Rattle.machine_world.specs.Refusals.{refusal}
use Rattle.sim_run.proofs.TakesLemmas.{row_of}
use Rattle.sim_run.specs.Counted.{event_of}
use Rattle.sim_run.proofs.counted_world.CountedWorld.take.Given as goal

abbrev pub invariant-loop-taken : goal.invariant-loop-taken
invariant-loop-taken l = record {
  counted : row_of l.fn.self (event_of l.taker) 0 l.most ≡ row_of l.self (event_of l.taker) l.taken (l.most - l.taken);
  lawful : refusal l.self.world (event_of l.taker) ≡ None;
  events : l.self.world.events ≤ l.fn.self.world.events + l.taken;
}
