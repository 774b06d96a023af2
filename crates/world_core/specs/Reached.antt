-- The worlds that runs lead to.
use Rattle.std.specs.Prelude.{◌≡◌, List}
use Rattle.machine_world.specs.Runs.{run}
use Rattle.machine_world.specs.Standing.{StandsWell}
use Rattle.machine_world.specs.World.{World}
use Rattle.machine_world.specs.declared.events.Event.{Event}
use Rattle.region_view.specs.Sizes.{IsWithinLimits, Sizes}

-- the world is the one that some list of events makes of a pool as it opens
pub record IsReached (world : World) : Type 0 where
  pub sizes : Sizes
  pub limits : IsWithinLimits sizes
  pub events : List Event
  pub is : run sizes events ≡ world

-- and so it stands well, as each such world does: said again, so that it is at hand
pub record IsRun (world : World) : Type 0 where
  pub reached : IsReached world
  pub stands : StandsWell world
