use Rattle.world_ledger.proofs.ReadingLemmas.{object_unit}
use Rattle.world_ledger.proofs.objects.is_in_stock.Goals as goal

pub has_bit_in_force-requires-clause-unit : goal.has_bit_in_force-requires-clause-unit
has_bit_in_force-requires-clause-unit c = object_unit c.args.shape.now _ c.args.object c.object.view_is c.requires.object
