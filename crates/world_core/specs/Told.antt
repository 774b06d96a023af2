-- What the world tells of itself beside its words: the master's task, and the calls of the clients.
use Rattle.std.specs.Prelude.{ℕ, Option, Some, None}
use Rattle.machine_world.specs.World.{Joins, NoTask, Recovers, Settles, TaskState}
use Rattle.machine_world.specs.declared.events.Task.{Task}
use Rattle.machine_world.specs.declared.events.Task.TheVariants.{Settle, Recover, Join}

-- the task that the master works on
abbrev pub task_in : TaskState → Option Task
task_in NoTask = None
task_in (Settles settling) = Some Settle
task_in (Recovers recovery) = Some (Recover recovery.client)
task_in (Joins joining) = Some (Join joining.node)

-- the clients that were stopped when the settling under way was chosen, bit c - 1 for client c
abbrev pub awaited_by : TaskState → Option ℕ
awaited_by NoTask = None
awaited_by (Settles settling) = Some settling.stopped
awaited_by (Recovers recovery) = None
awaited_by (Joins joining) = None
