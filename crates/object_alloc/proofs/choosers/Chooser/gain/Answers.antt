use Rattle.std.proofs.Common.{◌≡◌, ap, ◌∙◌, ◌+◌, ◌++◌, [], ◌∷◌}
use Rattle.object_alloc.proofs.ChooserLemmas.{here-is, here-reserve, with_class-fit, with_class-rooms, with_class-state}
use Rattle.machine.specs.Choosing.{block_at, region_at}
use Rattle.machine.specs.Stock as machine
use Rattle.machine.specs.Stock.{OwnBlock, class_stock}
use Rattle.object_alloc.specs.Choosers.{stock_of}
use Rattle.object_alloc.proofs.choosers.Chooser.gain.Goals as goal

pub returns-clause-state : goal.returns-clause-state
returns-clause-state c =
    let s = c.args.self.now in
    let x = c.index_mut.result.now in
    let here = here-is s x c.requires.fit c.index_mut.ensures.value in
    let region = c.region.ensures.region in
    let block = c.block.ensures.block in
    let gained : OwnBlock = record { region = region_at (stock_of s); block = block_at (stock_of s); ripe = c.args.ripe; waiting = c.args.waiting } in
    let f : machine.ClassStock → machine.ClassStock = λ of_class. record of_class { own = of_class.own ++ gained ∷ [] } in
    let items : c.push_reserved.new.self.items ≡ x.own.items ++ gained ∷ [] =
    c.push_reserved.ensures.items ∙ λ i. x.own.items ++ record { region = region i; block = block i; ripe = c.args.ripe; waiting = c.args.waiting } ∷ [] in
    with_class-state s (record x { own = c.push_reserved.new.self }) (s.position + 1) (f (class_stock (stock_of s)))
    (ap (λ list. record { own = list; reserve = x.reserve; awaited = x.awaited }) items ∙ ap f here)

pub returns-clause-fit : goal.returns-clause-fit
returns-clause-fit c =
    let s = c.args.self.now in
    let x = c.index_mut.result.now in
    with_class-fit s (record x { own = c.push_reserved.new.self }) (s.position + 1) c.requires.fit (here-reserve s x c.requires.fit c.index_mut.ensures.value)

pub returns-clause-rooms : goal.returns-clause-rooms
returns-clause-rooms c =
    let s = c.args.self.now in
    let x = c.index_mut.result.now in
    with_class-rooms s x (record x { own = c.push_reserved.new.self }) (s.position + 1) c.index_mut.ensures.value c.push_reserved.ensures.capacity c.requires.fit
