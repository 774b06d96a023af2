use Rattle.std.proofs.Common.{rules}
use Rattle.std.proofs.lemmas.List.Sorted.{answers_always}
use Rattle.verb_history.proofs.PointLemmas.{sorted_is}
use Rattle.verb_history.proofs.points.sorted.Goals as goal

pub returns : goal.returns
returns c =
    sorted_is c.args.placed.now c.in_ok-order.order.items c.sort_by_key.new.self.items c.in_ok-order.ensures
    (c.in_ok-sort_by_key.ensures.sorted (λ one. one.now.at) (answers_always _ _ _ (λ f a r g h. search rules)))
    (c.in_ok-sort_by_key.ensures.stable (λ one. one.now.at) (answers_always _ _ _ (λ f a r g h. search rules)))
