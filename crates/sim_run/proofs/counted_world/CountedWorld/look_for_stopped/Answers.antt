use Rattle.std.proofs.Common.{sym, ap, subst}
use Rattle.sim_run.specs.Counted.{Counted, NoneAwaits}
use Rattle.sim_run.proofs.counted_world.CountedWorld.look_for_stopped.Goals as goal

pub invariant_of-self : goal.invariant_of-self
invariant_of-self c = record {
  few = c.self.invariant.few;
  ended = c.self.invariant.ended;
  returns = c.self.invariant.returns;
  numbers = c.self.invariant.numbers;
  enough = c.self.invariant.enough;
  stopped = c.self.invariant.stopped;
  recovered = λ none. subst NoneAwaits (sym (ap (λ (counted : Counted). counted.world) c.self.view_is)) (c.finds_stopped-awaits.ensures none);
}
