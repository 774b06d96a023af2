use Rattle.std.proofs.Common.{◌∙◌, rules}
use Rattle.object_alloc.specs.Parts.{word_of}
use Rattle.object_alloc.proofs.PlaceLemmas.{pair_written}
use Rattle.object_alloc.proofs.places.written_place.Goals as goal

pub returns : goal.returns
returns c =
    pair_written c.args.view.now (word_of c.args.part c.args.region c.args.block) c.args.i c.written_replica.result c.deref.result.now
    (c.deref.ensures.0 ∙ c.block_places-places.ensures.places) c.requires.i (search rules)
