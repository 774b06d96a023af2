use Rattle.std.proofs.Common.{rules, ap, ◌∙◌, sym}
use Rattle.machine.specs.Stock.{Stock}
use Rattle.object_alloc.proofs.BeginLemmas.{begun-else, begun-have}
use Rattle.object_alloc.proofs.KeptLemmas.{begun-kept, begun-same, begun-taken, other_fit}
use Rattle.machine.specs.Choosing.{begins}
use Rattle.object_alloc.specs.Choosers.{stock_of}
use Rattle.region_view.specs.Placed.{Viewed}
use Rattle.object_alloc.proofs.stocks.Stock.begin.Goals as goal

pub begins-requires : goal.begins-requires
begins-requires c = record { fit = other_fit c.self.inside.chooser c.args.class c.self.invariant c.requires.class }

pub invariant_of-self : goal.invariant_of-self
invariant_of-self c =
    begun-kept c.self.inside.chooser c.begins.new.self c.begins.result c.args.view c.args.class c.self.invariant (c.requires.shape ∙ sym (ap (λ (s : Stock). s.shape) c.self.view_is)) (search rules) c.requires.class (c.begins.ensures.turn ∙ ap (λ (v : Viewed). begins (stock_of c.self.inside.chooser) v.mask c.args.class) c.view.view_is) c.begins.ensures.rooms

pub returns-clause-taken : goal.returns-clause-taken
returns-clause-taken c =
    begun-taken c.self.inside.chooser c.begins.new.self c.begins.result c.args.view c.args.class c.self.invariant (c.requires.shape ∙ sym (ap (λ (s : Stock). s.shape) c.self.view_is)) (search rules) c.requires.class (c.begins.ensures.turn ∙ ap (λ (v : Viewed). begins (stock_of c.self.inside.chooser) v.mask c.args.class) c.view.view_is)

pub returns-clause-same : goal.returns-clause-same
returns-clause-same c =
    begun-same c.self.inside.chooser c.begins.new.self c.args.self.now c.begins.result c.args.view c.args.class c.self.invariant (c.requires.shape ∙ sym (ap (λ (s : Stock). s.shape) c.self.view_is)) (search rules) c.requires.class c.self.view_is (c.begins.ensures.turn ∙ ap (λ (v : Viewed). begins (stock_of c.self.inside.chooser) v.mask c.args.class) c.view.view_is)

pub returns-clause-have : goal.returns-clause-have
returns-clause-have c = λ object next.
    begun-have c.self.inside.chooser c.begins.new.self c.args.self.now c.begins.result c.view.inside.mask c.args.class object next c.self.invariant.held.fit.limits c.self.view_is c.begins.ensures.turn

pub returns-clause-else_goes : goal.returns-clause-else_goes
returns-clause-else_goes c = begun-else c.self.inside.chooser c.begins.new.self c.begins.result c.view.inside.mask c.args.class c.self.invariant.held.fit.limits c.begins.ensures.turn
