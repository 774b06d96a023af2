use Rattle.std.proofs.Common.{map, ap, ◌∙◌, rules, arith}
use Rattle.machine.specs.Places.{homes_of, pair_of}
use Rattle.machine.proofs.ObjectNamesLemmas.{names_object-says}
use Rattle.object_alloc.specs.Parts.{word_of}
use Rattle.object_alloc.specs.declared.places.Part.TheVariants.{Bitmap}
use Rattle.object_alloc.proofs.BitLemmas.{begun-held}
use Rattle.object_alloc.proofs.bits.change.Goals as goal

pub region_of-requires : goal.region_of-requires
region_of-requires c = (names_object-says c.args.view.shape c.args.class c.args.pointer c.requires.named).below

pub block_at-requires : goal.block_at-requires
block_at-requires c = (names_object-says c.args.view.shape c.args.class c.args.pointer c.requires.named).first

pub block_places-places-requires-clause-least : goal.block_places-places-requires-clause-least
block_places-places-requires-clause-least c = let region = (names_object-says c.args.view.shape c.args.class c.args.pointer c.requires.named).region in omega (arith, region.0, c.region_of.ensures)

pub block_places-places-requires-clause-most : goal.block_places-places-requires-clause-most
block_places-places-requires-clause-most c = let region = (names_object-says c.args.view.shape c.args.class c.args.pointer c.requires.named).region in omega (arith, region.1, c.region_of.ensures)

pub block_places-places-requires-clause-block : goal.block_places-places-requires-clause-block
block_places-places-requires-clause-block c = let says = names_object-says c.args.view.shape c.args.class c.args.pointer c.requires.named in omega (arith, says.first, says.last, c.block_at.ensures)

pub invariant_of-result : goal.invariant_of-result
invariant_of-result c =
    begun-held c.args.view c.args.pointer c.args.class c.args.set c.args.look c.first_phase.result (search rules) (search rules) c.requires.class c.requires.named c.first_phase.ensures
    c.block_places-places.result.items
    (c.block_places-places.ensures.places ∙ (λ i. map (pair_of c.args.view.shape) (homes_of c.args.view (word_of Bitmap (c.region_of.ensures i) (c.block_at.ensures i)))))
