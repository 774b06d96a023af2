use Rattle.std.proofs.Common.{rules}
use Rattle.std.proofs.lemmas.List.Edits.{map_over_more}
use Rattle.machine.specs.Stock.{ripened_block}
use Rattle.object_alloc.proofs.blocks.ClassStock.ripen.Goals as goal

pub loop-i-preserved : goal.loop-i-preserved
loop-i-preserved c = record {
  own = rw c.ripened.ensures (map_over_more ripened_block _ c.loop-i.self.own.items c.loop-i.i c.index.result.now (search rules) c.loop-i.invariant.own c.index.ensures);
  room = c.loop-i.invariant.room;
  reserve = c.loop-i.invariant.reserve;
  awaited = c.loop-i.invariant.awaited;
  long = c.loop-i.invariant.long;
}
