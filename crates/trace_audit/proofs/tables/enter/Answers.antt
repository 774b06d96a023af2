use Rattle.std.proofs.Common.{◌∙◌, ap, cond, Some}
use Rattle.trace_audit.proofs.NameLemmas.{is_eq-name}
use Rattle.trace_audit.specs.Tables.{call_row}
use Rattle.trace_audit.proofs.tables.enter.Goals as goal

pub returns : goal.returns
returns c = λ client n.
    c.in_ok-insert.ensures.updates.0 (client, n)
    ∙ ap (λ b. cond b (Some c.args.row) (call_row c.args.table.now client n)) (is_eq-name c.args.client c.args.number client n)
