use Rattle.object_alloc.proofs.ChooserLemmas.{here-reserve, with_class-fit}
use Rattle.object_alloc.proofs.choosers.Chooser.await_nobody.Goals as goal

pub returns-clause-fit : goal.returns-clause-fit
returns-clause-fit c =
    let s = c.args.self.now in
    let x = c.index_mut.result.now in
    with_class-fit s (record x { awaited = c.clear.new.self }) s.position c.requires.fit (here-reserve s x c.requires.fit c.index_mut.ensures.value)
