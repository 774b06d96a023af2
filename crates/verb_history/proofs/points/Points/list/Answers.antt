use Rattle.std.proofs.lemmas.Result.{IfOk-weaker}
use Rattle.verb_history.proofs.PointLemmas.{listed}
use Rattle.verb_history.proofs.points.Points.list.Goals as goal

pub returns : goal.returns
returns c = IfOk-weaker c.copies.result _ _ (λ list is.
    listed c.args.self.now.placed c.in_ok-order.order.items c.as_slice.result.now list.items c.in_ok-order.ensures c.as_slice.ensures.value is) c.copies.ensures
