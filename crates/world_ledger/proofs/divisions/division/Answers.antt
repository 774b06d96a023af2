use Rattle.std.proofs.Common.{ap, refl, ◌∙◌}
use Rattle.machine_world.specs.Readings.{blocks_of, granted_objects}
use Rattle.machine_world.specs.World.{first_ledger}
use Rattle.world_ledger.proofs.DivisionLemmas.{all-counted, with_blocks-same}
use Rattle.world_ledger.specs.Divisions.{no_division, with_objects}
use Rattle.world_ledger.specs.Seen.{words_seen, world_seen}
use Rattle.world_ledger.proofs.divisions.division.Goals as goal

pub returns : goal.returns
returns c ledger =
    let sizes = c.args.shape.now in
    let nodes = c.args.nodes.now in
    let of_blocks = world_seen sizes nodes c.args.stopped.now c.args.recovered.now (first_ledger sizes) in
    let world = world_seen sizes nodes c.args.stopped.now c.args.recovered.now ledger in
    c.count_all_objects.ensures
    ∙ ap (with_objects sizes nodes (granted_objects (words_seen sizes nodes)))
    (c.blocks_counted-division.ensures.counted ∙ with_blocks-same of_blocks world (blocks_of sizes) no_division (λ block. refl))
    ∙ all-counted world
