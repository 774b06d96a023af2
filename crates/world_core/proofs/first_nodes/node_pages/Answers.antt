use Rattle.std.proofs.Common.{◌≡◌, ◌+◌, ◌-◌, ◌*◌, ◌^◌, ◌<◌, ◌≤◌, ◌++◌, replicate, arith, ap, ◌∙◌}
use Rattle.region_view.specs.Sizes.{Sizes}
use Rattle.world_core.proofs.FirstNodesLemmas.{has-room, one-region}
use Rattle.world_core.proofs.first_nodes.node_pages.Goals as goal

pub put_bitmaps-requires : goal.put_bitmaps-requires
put_bitmaps-requires c =
    let sizes = c.args.shape.now in
    let blocks : c.shape.inside.blocks ≡ sizes.blocks = ap (λ (s : Sizes). s.blocks) c.shape.view_is in
    let regions : c.shape.inside.regions ≡ sizes.regions = ap (λ (s : Sizes). s.regions) c.shape.view_is in
    let few : sizes.blocks ≤ 64 = omega (arith, blocks, c.shape.invariant.blocks.1) in
    let more : c.loop-region.region < sizes.regions = omega (arith, regions, c.loop-region-test.true) in
    let room =
    has-room sizes (48 * c.shape.inside.groups) (128 + 512 * c.shape.inside.blocks) c.loop-region.region sizes.regions few
    (ap (λ n. 128 + 512 * n) blocks) more c.loop-region.words c.loop-region.invariant in
    omega (arith, room, blocks)

pub loop-region-preserved : goal.loop-region-preserved
loop-region-preserved c =
    let sizes = c.args.shape.now in
    let blocks : c.shape.inside.blocks ≡ sizes.blocks = ap (λ (s : Sizes). s.blocks) c.shape.view_is in
    let regions : c.shape.inside.regions ≡ sizes.regions = ap (λ (s : Sizes). s.regions) c.shape.view_is in
    let few : sizes.blocks ≤ 64 = omega (arith, blocks, c.shape.invariant.blocks.1) in
    let more : c.loop-region.region < sizes.regions = omega (arith, regions, c.loop-region-test.true) in
    one-region sizes (48 * c.shape.inside.groups) (128 + 512 * c.shape.inside.blocks) c.loop-region.region sizes.regions few
    (ap (λ n. 128 + 512 * n) blocks) more c.loop-region.words c.put_bitmaps.new.words c.loop-region.invariant
    (λ front zeros stand long room.
    c.put_bitmaps.ensures front zeros stand long (omega (arith, room, blocks))
    ∙ ap (λ n. front ++ replicate n (2 ^ 64 - 1) ++ replicate (zeros - n) 0) blocks)
