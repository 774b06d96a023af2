use Rattle.std.proofs.Common.{ap, ◌∙◌}
use Rattle.machine_world.specs.World.{client_at, is_registered, nobody}
use Rattle.world_core.proofs.ClientLemmas.{at_own_place, registered_within}
use Rattle.world_core.proofs.worlds.World.client.Goals as goal

pub returns : goal.returns
unfolding client_at
returns c =
    let client = c.args.client in
    let known = ap (λ world. is_registered world client) c.self.view_is ∙ c.requires in
    at_own_place (nobody c.self.inside.shape) (nobody c.self.inside.shape) c.self.inside.clients.items client c.index.result.now (registered_within client _ known) c.index.ensures
    ∙ ap (λ world. client_at world client) c.self.view_is
