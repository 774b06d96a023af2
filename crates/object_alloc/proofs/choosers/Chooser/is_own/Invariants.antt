use Rattle.std.proofs.Common.{◌≡◌, drop, map}
use Rattle.std.specs.List.{list_any}
use Rattle.machine.specs.Stock.{is_block}
use Rattle.object_alloc.specs.Classes.{class_of}
use Rattle.object_alloc.proofs.choosers.Chooser.is_own.Given as goal

abbrev pub invariant-loop-class : goal.invariant-loop-class
invariant-loop-class l =
    list_any (λ of_class. list_any (is_block l.region l.block) of_class.own) (map class_of l.self.classes.items)
    ≡ list_any (λ of_class. list_any (is_block l.region l.block) of_class.own) (map class_of (drop l.class l.self.classes.items))
