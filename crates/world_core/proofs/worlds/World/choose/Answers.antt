use Rattle.std.proofs.Common.{◌≡◌, ◌∷◌, ◌+◌, ap, map, subst, sym, ◌∙◌, None}
use Rattle.machine_world.specs.Refusals.{refusal}
use Rattle.machine_world.specs.World.{nobody}
use Rattle.machine_world.specs.declared.events.Event.TheVariants as event
use Rattle.verb_history.specs.Moments.{moment_of}
use Rattle.world_core.specs.Fields.{world_of}
use Rattle.world_core.specs.Reached.{IsRun}
use Rattle.world_core.specs.Working.{task_of}
use Rattle.world_core.proofs.ReachedLemmas.{occurs-run}
use Rattle.machine.specs.Settling.{settling_of}
use Rattle.machine_world.specs.Events.{begun}
use Rattle.machine_world.specs.World.{Joins, Recovers, Settles}
use Rattle.world_core.proofs.worlds.World.choose.Goals.{in-Settle, in-Recover, in-Join}
use Rattle.world_core.proofs.worlds.World.choose.Goals as goal

pub invariant_of-self : goal.invariant_of-self
invariant_of-self c =
    let world = world_of c.self.inside in
    let allowed : refusal world (event.Choose c.args.task) ≡ None = ap (λ w. refusal w (event.Choose c.args.task)) c.self.view_is ∙ c.requires.allowed in
    elim c.match-task.branch [
      | in-Settle w ↦ let task = ap task_of w.self-is ∙ ap Settles (w.new.ensures ∙ ap (settling_of c.self.inside.shape) w.bits.ensures) ∙ sym (ap (begun world) w.in-Settle.is) in
          subst IsRun (sym (λ i. record {
            shape = c.self.inside.shape;
            nodes = c.self.inside.nodes;
            clients = nobody c.self.inside.shape ∷ c.self.inside.clients.items;
            master = record { task = task i; won = c.self.inside.won; settled = c.self.inside.settled; recovered = c.self.inside.recovered };
            stopped = c.self.inside.stopped;
            trace = map moment_of c.self.inside.trace.items;
            ledger = c.self.inside.ledger.ledger;
            events = c.self.inside.events + 1;
          })) (occurs-run world (event.Choose c.args.task) allowed c.self.invariant)
      | in-Recover w ↦ let task = ap task_of w.self-is ∙ ap Recovers w.new-in-Recover.ensures ∙ sym (ap (begun world) w.in-Recover.is) in
          subst IsRun (sym (λ i. record {
            shape = c.self.inside.shape;
            nodes = c.self.inside.nodes;
            clients = nobody c.self.inside.shape ∷ c.self.inside.clients.items;
            master = record { task = task i; won = c.self.inside.won; settled = c.self.inside.settled; recovered = c.self.inside.recovered };
            stopped = c.self.inside.stopped;
            trace = map moment_of c.self.inside.trace.items;
            ledger = c.self.inside.ledger.ledger;
            events = c.self.inside.events + 1;
          })) (occurs-run world (event.Choose c.args.task) allowed c.self.invariant)
      | in-Join w ↦ let task = ap task_of w.self-is ∙ ap Joins w.new-in-Join.ensures ∙ sym (ap (begun world) w.in-Join.is) in
          subst IsRun (sym (λ i. record {
            shape = c.self.inside.shape;
            nodes = c.self.inside.nodes;
            clients = nobody c.self.inside.shape ∷ c.self.inside.clients.items;
            master = record { task = task i; won = c.self.inside.won; settled = c.self.inside.settled; recovered = c.self.inside.recovered };
            stopped = c.self.inside.stopped;
            trace = map moment_of c.self.inside.trace.items;
            ledger = c.self.inside.ledger.ledger;
            events = c.self.inside.events + 1;
          })) (occurs-run world (event.Choose c.args.task) allowed c.self.invariant)
    ]
