use Rattle.std.proofs.Common.{ap, ◌∙◌}
use Rattle.std.proofs.lemmas.Result.{IfOk-weaker}
use Rattle.machine_world.specs.Ledger.{in_order}
use Rattle.verb_history.proofs.LedgerLemmas.{order-entered}
use Rattle.world_ledger.proofs.ledgers.Ledger.in_order.Goals as goal

pub returns : goal.returns
returns c = IfOk-weaker c.order.result _ _ (λ order is. order-entered c.self.inside.points.placed order.items is ∙ ap (λ kept. in_order kept.ledger.entries) c.self.view_is) c.order.ensures
