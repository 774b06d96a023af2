use Rattle.std.proofs.lemmas.Result.{IfOk-weaker}
use Rattle.verb_history.proofs.LedgerLemmas.{history-marked}
use Rattle.verb_history.specs.Points.{IsMarked}
use Rattle.verb_history.proofs.points.Points.history.Goals as goal

pub returns : goal.returns
returns g c = IfOk-weaker c.marked.result _ _ (λ list is.
    history-marked (IsMarked (λ client number answer. g.F.Fn.post c.args.returned (client, (number, tt)) answer)) c.args.self.now.placed c.in_ok-order.order.items c.as_slice.result.now list.items
    c.in_ok-order.ensures c.as_slice.ensures.value is) c.marked.ensures
