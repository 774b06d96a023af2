use Rattle.std.proofs.Common.{◌∙◌, ◌&&◌, ◌==◌, ap, cond, true}
use Rattle.trace_audit.proofs.NameLemmas.{is_eq-name, or-cond}
use Rattle.trace_audit.specs.Tables.{is_listed}
use Rattle.trace_audit.proofs.tables.add_name.Goals as goal

pub returns : goal.returns
returns c = λ client n.
    c.in_ok-insert.ensures.updates.0 (client, n)
    ∙ ap (λ b. cond b true (is_listed c.args.names.now client n)) (is_eq-name c.args.client c.args.number client n)
    ∙ or-cond ((client == c.args.client) && (n == c.args.number)) (is_listed c.args.names.now client n)
