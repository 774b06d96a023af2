use Rattle.std.proofs.Common.{◌≡◌, map, replicate}
use Rattle.machine.specs.Stock.{no_stock}
use Rattle.object_alloc.specs.Classes.{class_of, room_of}
use Rattle.object_alloc.proofs.stocks.classes.Given as goal

abbrev pub invariant-loop : goal.invariant-loop
invariant-loop l = record {
  classes : map class_of l.classes.items ≡ replicate l.counter no_stock;
  rooms : map room_of l.classes.items ≡ replicate l.counter l.blocks;
}
