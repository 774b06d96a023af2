use Rattle.std.proofs.Common.{◌≡◌, ap, false, refl, sym, ◌∙◌}
use Rattle.machine.specs.Client.{is_idle}
use Rattle.machine_world.specs.World.{client_at, is_registered}
use Rattle.world_core.specs.Fields.{world_of}
use Rattle.world_core.proofs.SeenLemmas.{nobody-idle}
use Rattle.world_core.proofs.worlds.World.is_idle.Goals as goal

pub returns-then-not-is_registered : goal.returns-then-not-is_registered
returns-then-not-is_registered c =
    let world = world_of c.self.inside in
    let unknown : is_registered world c.args.client ≡ false = ap (λ w. is_registered w c.args.client) c.self.view_is ∙ sym c.is_registered.ensures ∙ c.if-not-is_registered.true in
    nobody-idle world c.self.inside.clients.items c.args.client refl unknown ∙ ap (λ w. is_idle (client_at w c.args.client)) c.self.view_is
