use Rattle.std.proofs.Common.{ap, subst, sym, ◌∙◌}
use Rattle.object_alloc.proofs.ChooserLemmas.{here-is, here-reserve, with_class-fit, with_class-rooms, with_class-state}
use Rattle.machine.specs.Stock as machine
use Rattle.machine.specs.Stock.{class_stock}
use Rattle.object_alloc.specs.Choosers.{stock_of}
use Rattle.object_alloc.specs.Classes.{HasUnit, with_scanned_block}
use Rattle.object_alloc.proofs.choosers.Chooser.scan.Goals as goal

pub returns-clause-state : goal.returns-clause-state
returns-clause-state c =
    let s = c.args.self.now in
    with_class-state s c.scan.new.self s.position (with_scanned_block s.class (class_stock (stock_of s)) c.args.i c.args.found)
    (c.scan.ensures.stock ∙ ap (λ of_class. with_scanned_block s.class of_class c.args.i c.args.found) (here-is s c.index_mut.result.now c.requires.fit c.index_mut.ensures.value))

pub returns-clause-fit : goal.returns-clause-fit
returns-clause-fit c =
    let s = c.args.self.now in
    with_class-fit s c.scan.new.self s.position c.requires.fit
    (subst HasUnit (sym (ap (λ (of_class : machine.ClassStock). of_class.reserve) c.scan.ensures.stock)) (here-reserve s c.index_mut.result.now c.requires.fit c.index_mut.ensures.value))

pub returns-clause-rooms : goal.returns-clause-rooms
returns-clause-rooms c =
    let s = c.args.self.now in
    with_class-rooms s c.index_mut.result.now c.scan.new.self s.position c.index_mut.ensures.value c.scan.ensures.room c.requires.fit
