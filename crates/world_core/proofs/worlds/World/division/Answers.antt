use Rattle.std.proofs.Common.{ap, ◌∙◌}
use Rattle.machine_world.specs.Readings.{division_of}
use Rattle.world_core.specs.Fields.{world_of}
use Rattle.world_core.proofs.SeenLemmas.{seen-division}
use Rattle.world_core.proofs.worlds.World.division.Goals as goal

pub returns : goal.returns
returns c =
    let world = world_of c.self.inside in
    c.division.ensures world.ledger ∙ seen-division world ∙ ap division_of c.self.view_is
