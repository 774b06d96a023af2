use Rattle.std.proofs.Common.{ap, subst, sym, ◌∙◌}
use Rattle.object_alloc.proofs.ChooserLemmas.{here-is, here-reserve, with_class-fit, with_class-state}
use Rattle.machine.specs.Stock as machine
use Rattle.machine.specs.Stock.{class_stock, ripened}
use Rattle.object_alloc.specs.Choosers.{stock_of}
use Rattle.object_alloc.specs.Classes.{HasUnit}
use Rattle.object_alloc.proofs.choosers.Chooser.ripen.Goals as goal

pub returns-clause-state : goal.returns-clause-state
returns-clause-state c =
    let s = c.args.self.now in
    with_class-state s c.ripen.new.self s.position (ripened (class_stock (stock_of s)))
    (c.ripen.ensures.stock ∙ ap ripened (here-is s c.index_mut.result.now c.requires.fit c.index_mut.ensures.value))

pub returns-clause-fit : goal.returns-clause-fit
returns-clause-fit c =
    let s = c.args.self.now in
    with_class-fit s c.ripen.new.self s.position c.requires.fit
    (subst HasUnit (sym (ap (λ (of_class : machine.ClassStock). of_class.reserve) c.ripen.ensures.stock)) (here-reserve s c.index_mut.result.now c.requires.fit c.index_mut.ensures.value))
