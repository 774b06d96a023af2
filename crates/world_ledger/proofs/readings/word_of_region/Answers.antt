use Rattle.std.proofs.Common.{◌+◌, ◌∙◌, ap, arith}
use Rattle.world_ledger.proofs.ReadingLemmas.{has_word, is_in_force, region_inside}
use Rattle.world_ledger.proofs.readings.word_of_region.Goals as goal

pub word-requires : goal.word-requires
word-requires c =
    let inside = region_inside c.args.shape.now c.args.region c.args.offset c.requires.least c.requires.most c.requires.offset in
    has_word c.args.shape.now c.args.nodes.now _ _ c.requires.whole c.primary_of-node.ensures.least c.primary_of-node.ensures.most
    (omega (arith, inside, c.region_start.ensures.start))

pub returns : goal.returns
returns c word of_region at_offset =
    c.word.ensures
    ∙ is_in_force c.args.shape.now c.args.nodes.now word c.args.region c.args.offset _ _ of_region at_offset c.primary_of-node.ensures.primary
    (ap (λ start. start + c.args.offset) c.region_start.ensures.start)
