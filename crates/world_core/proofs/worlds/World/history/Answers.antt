use Rattle.std.proofs.Common.{ap, map, ◌∙◌}
use Rattle.std.proofs.lemmas.Result.{IfOk-weaker}
use Rattle.machine_world.specs.Ledger.{entry_of}
use Rattle.verb_history.specs.Points.{entered_of}
use Rattle.world_core.proofs.SeenLemmas.{history-listed}
use Rattle.world_core.proofs.worlds.World.history.Goals as goal

pub returns : goal.returns
returns c = IfOk-weaker c.marked.result _ _ (λ list is.
    is ∙ ap (map (λ one. entry_of c.args.self.now (entered_of one.now))) c.as_slice.ensures.value
    ∙ history-listed c.args.self.now c.in_ok-order.order.items (λ one. entered_of one.now) c.in_ok-order.ensures) c.marked.ensures
