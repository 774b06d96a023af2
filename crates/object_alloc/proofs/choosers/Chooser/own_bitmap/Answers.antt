use Rattle.std.proofs.Common.{rules}
use Rattle.object_alloc.proofs.PlaceLemmas.{some_replica}
use Rattle.object_alloc.proofs.StockLemmas.{own_within}
use Rattle.object_alloc.specs.declared.places.Part.TheVariants as part
use Rattle.object_alloc.proofs.choosers.Chooser.own_bitmap.Goals as goal

pub primary_place-requires-clause-some : goal.primary_place-requires-clause-some
primary_place-requires-clause-some c =
    some_replica c.view.result part.Bitmap c.from.result c.from-2.result (search rules) (search rules) (search (rules, own_within))
