use Rattle.std.proofs.Common.{arith}
use Rattle.world_ledger.proofs.ReadingLemmas.{named_pointer}
use Rattle.world_ledger.proofs.objects.link_word_in_force.Goals as goal

pub region_of-requires : goal.region_of-requires
region_of-requires c = (named_pointer c.args.shape.now _ c.args.object c.object.view_is c.requires.object).below

pub word_of_region-requires-clause-least : goal.word_of_region-requires-clause-least
word_of_region-requires-clause-least c =
    omega (arith, (named_pointer c.args.shape.now _ c.args.object c.object.view_is c.requires.object).region, c.region_of.ensures)

pub word_of_region-requires-clause-most : goal.word_of_region-requires-clause-most
word_of_region-requires-clause-most c =
    omega (arith, (named_pointer c.args.shape.now _ c.args.object c.object.view_is c.requires.object).region, c.region_of.ensures)

pub word_of_region-requires-clause-offset : goal.word_of_region-requires-clause-offset
word_of_region-requires-clause-offset c =
    omega (arith, (named_pointer c.args.shape.now _ c.args.object c.object.view_is c.requires.object).last, c.unit_of.ensures)
