-- What holds of the world after every run, whatever words were answered.
use Rattle.std.specs.Prelude.{◌≡◌, ℕ, ◌+◌, ◌<◌, ◌≤◌, List, ◌∷◌, length, map, replicate}
use Rattle.machine.specs.Joining.{IsJoining}
use Rattle.machine.specs.RecoveryStage.{IsRecovery}
use Rattle.machine.specs.Settling.{IsSettling}
use Rattle.machine.specs.Standing.{IsClient}
use Rattle.machine_world.specs.World.{Joins, NoTask, Recovers, Settles, TaskState, World, client_at}
use Rattle.region_view.specs.Sizes.{IsWithinLimits, Sizes, node_words}

-- how many words each node has
abbrev pub node_sizes : Sizes → List ℕ
node_sizes sizes = 1040 ∷ replicate sizes.nodes (node_words sizes)

abbrev pub TaskStands : Sizes → TaskState → Type 0
TaskStands sizes NoTask = Unit {0}
TaskStands sizes (Settles settling) = IsSettling sizes settling
TaskStands sizes (Recovers recovery) = IsRecovery sizes recovery.client recovery
TaskStands sizes (Joins joining) = IsJoining sizes joining

-- the nodes have all of their words, and each client and the master's task stand well
pub record StandsWell (world : World) : Type 0 where
  pub limits : IsWithinLimits world.shape
  pub words : map length world.nodes ≡ node_sizes world.shape
  pub few : length world.clients ≤ world.shape.clients + 1
  pub each : (client : ℕ) → 1 ≤ client → client < length world.clients → IsClient world.shape client (client_at world client)
  pub task : TaskStands world.shape world.master.task
