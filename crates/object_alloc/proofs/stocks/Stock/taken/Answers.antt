use Rattle.std.proofs.Common.{ap, subst, sym, true, ◌≡◌, ◌∙◌}
use Rattle.machine.specs.Choosing.{taken}
use Rattle.machine.specs.ObjectNames.{names_object}
use Rattle.machine.specs.Stock.{Stock}
use Rattle.object_alloc.proofs.KeptLemmas.{taken-kept, taken-state, unit-at}
use Rattle.object_alloc.proofs.stocks.Stock.taken.Goals as goal

pub replace_reserve-requires-clause-reserve : goal.replace_reserve-requires-clause-reserve
replace_reserve-requires-clause-reserve c = unit-at c.self.inside.chooser c.args.class c.index_mut.result.now c.self.invariant c.requires.class c.index_mut.ensures.value

pub invariant_of-self : goal.invariant_of-self
invariant_of-self c =
    taken-kept c.self.inside.chooser c.args.class c.args.next c.index_mut.result.now c.replace_reserve.new.self c.self.invariant c.requires.class
    (subst (λ (s : Stock). names_object s.shape c.args.class c.args.next ≡ true) (sym c.self.view_is) c.requires.named) c.index_mut.ensures.value c.replace_reserve.ensures.stock c.replace_reserve.ensures.room

pub returns : goal.returns
returns c =
    taken-state c.self.inside.chooser c.args.class c.args.next c.index_mut.result.now c.replace_reserve.new.self c.self.invariant c.requires.class c.index_mut.ensures.value c.replace_reserve.ensures.stock
    ∙ ap (λ s. taken s c.args.class c.args.next) c.self.view_is
