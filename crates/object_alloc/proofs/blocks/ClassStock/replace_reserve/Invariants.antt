use Rattle.std.proofs.Common.{◌≡◌, ◌++◌, drop, map, take}
use Rattle.machine.specs.Stock.{cleared_block}
use Rattle.object_alloc.specs.Classes.{class_of, room_of}
use Rattle.object_alloc.proofs.blocks.ClassStock.replace_reserve.Given as goal

abbrev pub invariant-loop-i : goal.invariant-loop-i
invariant-loop-i l = record {
  own : l.self.own.items ≡ map (cleared_block l.class (class_of l.fn.self)) (take l.i l.fn.self.own.items) ++ drop l.i l.fn.self.own.items;
  room : room_of l.self ≡ room_of l.fn.self;
  awaited : l.self.awaited ≡ l.fn.self.awaited;
  long : l.self.own.len ≡ l.fn.self.own.len;
}
