-- The world that the program's fields tell.
use Rattle.std.specs.Prelude.{◌∷◌, map}
use Rattle.machine_world.specs.World.{World, nobody}
use Rattle.verb_history.specs.Moments.{moment_of}
use Rattle.world_core.specs.Working.{task_of}
use Rattle.world_core.specs.declared.worlds.World.TheInside.{Inside}

-- there is no client 0, and the list of the program begins with client 1
abbrev pub world_of : Inside → World
world_of inside = record {
  shape = inside.shape;
  nodes = inside.nodes;
  clients = nobody inside.shape ∷ inside.clients.items;
  master = record { task = task_of inside.task; won = inside.won; settled = inside.settled; recovered = inside.recovered };
  stopped = inside.stopped;
  trace = map moment_of inside.trace.items;
  ledger = inside.ledger.ledger;
  events = inside.events;
}
