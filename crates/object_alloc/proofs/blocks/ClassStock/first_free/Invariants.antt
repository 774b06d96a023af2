use Rattle.std.proofs.Common.{◌≡◌, drop, find}
use Rattle.machine.specs.Stock.{has_free}
use Rattle.object_alloc.specs.Classes.{class_of}
use Rattle.object_alloc.proofs.blocks.ClassStock.first_free.Given as goal

abbrev pub invariant-loop-i : goal.invariant-loop-i
invariant-loop-i l = find (has_free l.class (class_of l.self)) l.self.own.items ≡ find (has_free l.class (class_of l.self)) (drop l.i l.self.own.items)
