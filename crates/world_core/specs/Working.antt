-- The master's task of the program, as that of the world.
use Rattle.machine_world.specs.World as world
use Rattle.machine_world.specs.World.{TaskState}
use Rattle.world_core.specs.declared.worlds.Working.{Working}
use Rattle.world_core.specs.declared.worlds.Working.TheVariants as working

abbrev pub task_of : Working → TaskState
task_of working.Rest = world.NoTask
task_of (working.Settle settling) = world.Settles settling
task_of (working.Recover recovery) = world.Recovers recovery
task_of (working.Join joining) = world.Joins joining
