use Rattle.std.proofs.Common.{List, sym, ◌∙◌, ap, subst, rules}
use Rattle.arrayvec.proofs.ArrayVecLemmas.{filter-from_retain}
use Rattle.reuse_epoch.specs.Awaited.{Awaited, IsAwaited, is_still_awaited, still_awaited}
use Rattle.reuse_epoch.proofs.AwaitedLemmas.{IsAwaited-still_awaited}
use Rattle.reuse_epoch.proofs.grace.Grace.seen.Goals as goal

pub returns-clause-list : goal.returns-clause-list
returns-clause-list c =
    filter-from_retain _ (is_still_awaited c.args.client c.args.begin) _ (λ x b f' y called. search rules) c.self.inside.awaited.items c.retain.new.self.items c.retain.ensures.filtered
    ∙ ap (λ (list : List Awaited). still_awaited list c.args.client c.args.begin) c.self.view_is

pub invariant_of-self : goal.invariant_of-self
invariant_of-self c =
    subst IsAwaited (sym (returns-clause-list c))
    (IsAwaited-still_awaited c.args.self.now c.args.client c.args.begin (subst IsAwaited c.self.view_is c.self.invariant))

pub returns-clause-awaited : goal.returns-clause-awaited
returns-clause-awaited c = invariant_of-self c
