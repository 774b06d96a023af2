use Rattle.object_alloc.proofs.KeptLemmas.{after-kept, after-same, after-taken}
use Rattle.object_alloc.proofs.CauseLemmas.{after-has, after-refused, after-spent}
use Rattle.object_alloc.proofs.stocks.Stock.after.Goals as goal

pub invariant_of-self : goal.invariant_of-self
invariant_of-self c = after-kept c.self.inside.chooser c.after.new.self c.after.result c.args.answer c.self.invariant c.after.ensures.turn c.after.ensures.rooms

pub returns-clause-taken : goal.returns-clause-taken
returns-clause-taken c = after-taken c.self.inside.chooser c.after.new.self c.args.self.now c.after.result c.args.answer c.self.invariant c.self.view_is c.after.ensures.turn

pub returns-clause-refused : goal.returns-clause-refused
returns-clause-refused c = λ node. after-refused c.self.inside.chooser c.after.new.self c.args.self.now c.after.result c.args.answer node c.self.view_is c.after.ensures.turn

pub returns-clause-same : goal.returns-clause-same
returns-clause-same c = after-same c.self.inside.chooser c.after.new.self c.args.self.now c.after.result c.args.answer c.self.invariant c.self.view_is c.after.ensures.turn

pub returns-clause-have : goal.returns-clause-have
returns-clause-have c = λ object next is. after-has c.self.inside.chooser c.after.new.self c.after.result c.args.answer object next c.after.ensures.turn is

pub returns-clause-no_space : goal.returns-clause-no_space
returns-clause-no_space c = λ class client begin is. after-spent c.self.inside.chooser c.after.new.self c.after.result c.args.answer class client begin c.after.ensures.turn is
