use Rattle.std.proofs.Common.{ap, ◌∙◌}
use Rattle.object_alloc.proofs.ChooserLemmas.{here-is, here-reserve, with_class-fit, with_class-state}
use Rattle.machine.specs.Stock as machine
use Rattle.machine.specs.Stock.{class_stock}
use Rattle.object_alloc.specs.Choosers.{stock_of}
use Rattle.reuse_epoch.specs.Awaited.{noted}
use Rattle.object_alloc.proofs.choosers.Chooser.note.Goals as goal

pub returns-clause-state : goal.returns-clause-state
returns-clause-state c =
    let s = c.args.self.now in
    let x = c.index_mut.result.now in
    let here = here-is s x c.requires.fit c.index_mut.ensures.value in
    let f : machine.ClassStock → machine.ClassStock = λ of_class. record of_class { awaited = noted of_class.awaited c.args.client c.args.begin } in
    with_class-state s (record x { awaited = c.note.new.self }) s.position (f (class_stock (stock_of s)))
    (ap (λ list. record { own = x.own.items; reserve = x.reserve; awaited = list }) c.note.ensures.list ∙ ap f here)

pub returns-clause-fit : goal.returns-clause-fit
returns-clause-fit c =
    let s = c.args.self.now in
    let x = c.index_mut.result.now in
    with_class-fit s (record x { awaited = c.note.new.self }) s.position c.requires.fit (here-reserve s x c.requires.fit c.index_mut.ensures.value)
