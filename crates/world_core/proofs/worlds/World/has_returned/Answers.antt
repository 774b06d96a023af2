use Rattle.std.proofs.Common.{◌≡◌, ap, false, refl, sym, ◌∙◌}
use Rattle.machine_world.specs.Readings.{has_returned}
use Rattle.machine_world.specs.World.{is_registered}
use Rattle.world_core.specs.Fields.{world_of}
use Rattle.world_core.proofs.SeenLemmas.{nobody-returned}
use Rattle.world_core.proofs.worlds.World.has_returned.Goals as goal

pub returns-then-not-is_registered : goal.returns-then-not-is_registered
returns-then-not-is_registered c =
    let world = world_of c.self.inside in
    let unknown : is_registered world c.args.client ≡ false = ap (λ w. is_registered w c.args.client) c.self.view_is ∙ sym c.is_registered.ensures ∙ c.if-not-is_registered.true in
    nobody-returned world c.self.inside.clients.items c.args.client c.args.number refl unknown ∙ ap (λ w. has_returned w c.args.client c.args.number) c.self.view_is
